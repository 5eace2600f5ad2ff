-- Worlds that are found by their names.
use Rattle.std.proofs.Common.{◌≡◌, ℕ, ◌<◌, List, Option, None, Some, IfSome, length, slice_get, sym}
use Rattle.std.specs.Map.{lookup}
use Rattle.std.specs.Str.{bytes_eq}
use Rattle.std.proofs.lemmas.Map.Views.{Contains-from_lookup}
use Rattle.std.proofs.lemmas.Option.{option_and_then_some, slice_get_within}
use Rattle.std.proofs.lemmas.Slice.Eq.{bytes_eq-Decides}
use Rattle.wit_names.specs.declared.package_name.PackageName.{PackageName}
use Rattle.wit_data.specs.declared.world.World.{World}
use Rattle.wit_elaboration.specs.Valid.{IsValid}
use Rattle.wit_graph_data.specs.declared.graph.Graph.{Graph}
use Rattle.wit_graph_data.specs.declared.graph.Package.{Package}
use Rattle.wit_graph_theory.specs.facts.ListFacts.{found_at, place_of}
use Rattle.wit_graph_data.specs.Named.{package_named, world_in, world_named}

-- a world that a package of a valid graph has is there
pub world_in_within : (g : Graph) → IsValid g → (world : List ℕ) (p w : ℕ) → world_in g world p ≡ Some w → w < length g.worlds
world_in_within g valid world p w inside =
    option_and_then_some (λ (x : Package). lookup (bytes_eq world) x.worlds) (slice_get g.packages p) w inside
    (λ home at found.
    let place = place_of home.worlds (world, w) (Contains-from_lookup (λ a b. (bytes_eq-Decides a b).0) world w home.worlds found) in
    let there = found_at (λ (x : World). (x.name ≡ world) × (x.package ≡ Some p)) g.worlds w (valid.well_formed.tables.world_tables p home at place.0 (world, w) place.1) in
    slice_get_within g.worlds w there.0 there.1)

-- so one that is named
pub world_within : (g : Graph) → IsValid g → (name : PackageName) (world : List ℕ) (w : ℕ) → world_named g name world ≡ Some w → w < length g.worlds
world_within g valid name world w is =
    option_and_then_some (world_in g world) (package_named g name) w is (λ p named inside. world_in_within g valid world p w inside)

-- so what is found in a package, if anything is
pub found_within : (g : Graph) → IsValid g → (world : List ℕ) (p : ℕ) (o : Option ℕ) → o ≡ world_in g world p → IfSome o (λ w. w < length g.worlds)
found_within g valid world p None is = tt
found_within g valid world p (Some w) is = world_in_within g valid world p w (sym is)
