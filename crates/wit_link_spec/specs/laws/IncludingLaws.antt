-- The laws of including, so that a contract can say them.
use Rattle.std.specs.Prelude.{◌≡◌, ◌⊎◌, ◌↔◌, ◌++◌, ℕ, true, Some, Contains, slice_get, flat_map}
use Rattle.wit_digraph.specs.Relation.{Reaches}
use Rattle.wit_data.specs.Kind.{type_references}
use Rattle.wit_data.specs.declared.world.World.{World}
use Rattle.wit_elaboration.specs.Valid.{IsValid}
use Rattle.wit_graph_data.specs.declared.graph.Graph.{Graph}
use Rattle.wit_link_spec.specs.Include.{entry_mentions, is_copied, is_owned_within, is_unnamed_type}
use Rattle.wit_link_spec.specs.facts.CopiesCarried.{IsUnshadowed}
use Rattle.wit_link_spec.specs.facts.IncludedWorld.{Including, IsIncluded}
use Rattle.wit_link_spec.specs.facts.PartiallyLinked.{IsSoundSoFar}

-- type t is on a way from a type r that an entry of world w names to a type b that belongs to the world
abbrev pub IsOnWay : Graph → ℕ → World → ℕ → Type 0
IsOnWay g w world t =
    (r : ℕ) × (b : ℕ)
    × Contains (flat_map (entry_mentions g world) (world.imports ++ world.exports)) r
    × Reaches (type_references g.types) r t × Reaches (type_references g.types) t b
    × (is_owned_within g w world b ≡ true)

-- of a valid graph an include of world w copies exactly the types that belong to the world, and those without a name on
-- such a way
abbrev pub CopiesAreExact : Type 0
CopiesAreExact =
    (g : Graph) (w t : ℕ) (world : World) → IsValid g → slice_get g.worlds w ≡ Some world
    → (is_copied g w world t ≡ true)
    ↔ ((is_owned_within g w world t ≡ true)
    ⊎ ((is_unnamed_type g t ≡ true) × IsOnWay g w world t))

-- a partially linked graph into which a world is included stays partially linked, where the include shadows nothing
abbrev pub IncludesStand : Type 0
IncludesStand =
    (g : Graph) (i : Including g) (new : Graph) → IsSoundSoFar g → IsUnshadowed g i
    → IsIncluded g i new → IsSoundSoFar new
