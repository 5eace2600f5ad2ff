-- What lines list for worlds: the imports, each of an interface under the interface's own id, and the worlds that worlds include.
-- Both are lists of links, each a world and what is listed for it.
use Rattle.std.specs.Prelude.{◌&&◌, ℕ, Bool, List, [], ◌∷◌, ◌++◌, Option, filter_map, fold, nat_eq, if◌then◌else◌, flat_map, option_and_then, option_map, slice_get}
use Rattle.std.specs.List.{list_any}
use Rattle.std.specs.Option.{option_flatten}
use Rattle.witgraph_dot.specs.declared.listing.Listing.{Listing}

-- nothing
abbrev pub new_listing : Listing
new_listing = record { imports = []; includes = [] }

-- this is listed for a world
abbrev pub has_link : List (ℕ × ℕ) → ℕ → ℕ → Bool
has_link links world thing =
    list_any (λ (link : ℕ × ℕ). nat_eq link.0 world && nat_eq link.1 thing) links

-- what is listed for a world
abbrev pub listed_for : ℕ → List (ℕ × ℕ) → List ℕ
listed_for world links =
    flat_map (λ (link : ℕ × ℕ). if nat_eq link.0 world then link.1 ∷ [] else []) links

-- with one thing more for a world, where it isn't there
abbrev pub and_link : List (ℕ × ℕ) → ℕ → ℕ → List (ℕ × ℕ)
and_link links world thing =
    if has_link links world thing then links else links ++ (world, thing) ∷ []

-- with several more
abbrev pub and_links : List (ℕ × ℕ) → ℕ → List ℕ → List (ℕ × ℕ)
and_links links world [] = links
and_links links world (thing ∷ things) = and_links (and_link links world thing) world things

-- with more links, of several worlds, each where it isn't there
abbrev pub with_links : List (ℕ × ℕ) → List (ℕ × ℕ) → List (ℕ × ℕ)
with_links links more = fold (λ all (link : ℕ × ℕ). and_link all link.0 link.1) links more

-- ---- after a merge

-- a link of a world and a thing that are now where these lists say; None where one is left out
abbrev pub moved_link : List (Option ℕ) → List (Option ℕ) → ℕ × ℕ → Option (ℕ × ℕ)
moved_link worlds things link =
    option_and_then (λ w.
    option_map (λ thing. (w, thing)) (option_flatten (slice_get things link.1)))
    (option_flatten (slice_get worlds link.0))

-- what is listed with what another graph lists, whose worlds and interfaces are now where these lists say
abbrev pub merged_listing : List (Option ℕ) → List (Option ℕ) → Listing → Listing → Listing
merged_listing worlds interfaces other listing =
    record {
      imports = with_links listing.imports
          (filter_map (moved_link worlds interfaces) other.imports);
      includes = with_links listing.includes
          (filter_map (moved_link worlds worlds) other.includes);
    }
