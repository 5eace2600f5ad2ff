-- What a command lists for worlds if it comes to something.
use Rattle.std.specs.Prelude.{ℕ, List, [], ◌∷◌, if◌then◌else◌, slice_get, filter, not, nat_eq, Option}
use Rattle.std.specs.Option.{option_map_or}
use Rattle.wit_commands.specs.declared.change.Change.TheVariants as change
use Rattle.wit_graph_data.specs.declared.graph.Graph.{Graph}
use Rattle.wit_graph_data.specs.Named.{world_named}
use Rattle.wit_names.specs.declared.track.TrackRule.{TrackRule}
use Rattle.wit_resolve_graph.specs.State.{State}
use Rattle.wit_script_lines.specs.declared.request.Request.{Request}
use Rattle.wit_script_lines.specs.declared.request.Request.TheVariants as request
use Rattle.witgraph_dot.specs.Entries.{own_exports, own_imports}
use Rattle.witgraph_dot.specs.Listed.{listed_for, and_link, and_links}
use Rattle.witgraph_dot.specs.Pushed.{line_imports, line_includes, pushed}
use Rattle.witgraph_dot.specs.Sets.{without}
use Rattle.witgraph_dot.specs.Tracks.{is_version_of_any}
use Rattle.witgraph_dot.specs.declared.effect.Effect.{Effect}
use Rattle.witgraph_dot.specs.declared.effect.Effect.TheVariants as effect
use Rattle.witgraph_dot.specs.declared.listing.Listing.{Listing}

-- ---- what a command does, on this graph before it

-- of `importize`, what the world exports will be listed for it
abbrev pub request_effect : Graph → Request → Effect
request_effect g (request.Change (change.PushGroups main deps)) = effect.Pushes (main ∷ deps)
request_effect g (request.Change (change.Importize owner name out)) =
    let world = world_named g owner name in
    effect.Importizes world (option_map_or (λ w. own_exports (slice_get g.worlds w)) world [])
request_effect g (request.Change (change.Exportize owner name out keys)) =
    effect.Exportizes (world_named g owner name)
request_effect g (request.Change (change.Semver owner name)) =
    effect.Unites (world_named g owner name)
request_effect g request.Other = effect.Opens
request_effect g request.Merge = effect.Joins
request_effect g _ = effect.Nothing

-- ---- what is listed after it

-- these in place of what was listed for a world
abbrev pub replaced : ℕ → List ℕ → List (ℕ × ℕ) → List (ℕ × ℕ)
replaced world interfaces imports =
    and_links (filter (λ (link : ℕ × ℕ). not (nat_eq link.0 world)) imports) world interfaces

-- after `importize`: what the world exported before
abbrev pub importized_imports : Option ℕ → List ℕ → List (ℕ × ℕ) → List (ℕ × ℕ)
importized_imports world exports imports =
    option_map_or (λ w. replaced w exports imports) world imports

-- with those of some interfaces for a world that stand on the track of something that is listed for it, one after another
abbrev pub with_versions : TrackRule → Graph → List (ℕ × ℕ) → ℕ → List ℕ → List (ℕ × ℕ)
with_versions rule g imports world [] = imports
with_versions rule g imports world (i ∷ is) =
    with_versions rule g
    (if is_version_of_any rule g (listed_for world imports) i then and_link imports world i
    else imports) world is

-- what is listed after an effect on a graph that is now so: after `importize` what the world exported before, after
-- `exportize` what was listed and isn't exported, after `semver` also what the world imports on the track of something listed
abbrev pub with_effect : State → Effect → Listing → Listing
with_effect after (effect.Pushes groups) listing =
    record {
      imports = pushed line_imports after.graph groups listing.imports;
      includes = pushed line_includes after.graph groups listing.includes;
    }
with_effect after (effect.Importizes world exports) listing =
    record listing { imports = importized_imports world exports listing.imports }
with_effect after (effect.Exportizes world) listing =
    record listing {
      imports = option_map_or (λ w.
          let exports = own_exports (slice_get after.graph.worlds w) in
          replaced w (without (listed_for w listing.imports) exports) listing.imports)
          world listing.imports;
    }
with_effect after (effect.Unites world) listing =
    record listing {
      imports = option_map_or (λ w.
          let imports = own_imports (slice_get after.graph.worlds w) in
          with_versions after.track_rule after.graph listing.imports w imports)
          world listing.imports;
    }
with_effect after _ listing = listing
