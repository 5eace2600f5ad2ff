-- Words of inner contracts and proofs, beside `Elaboration`.
use Rattle.std.specs.Prelude.{ℕ, ◌≡◌, List, Some, slice_get, Contains, Option, None}
use Rattle.wit_data.specs.declared.world.World.{World}
use Rattle.wit_elaboration.specs.declared.entries.Lists.{Lists}
use Rattle.wit_graph_data.specs.declared.graph.Graph.{Graph}
use Rattle.wit_graph_data.specs.declared.error_kind.ResolveErrorKind.{ResolveErrorKind}
use Rattle.wit_graph_data.specs.declared.error_kind.ResolveErrorKind.TheVariants.{InvalidTransitiveDependency}
use Rattle.wit_elaboration.specs.Entries.{Entry}
use Rattle.wit_graph_data.specs.IdText.{key_text}
use Rattle.wit_elaboration.specs.Imported.{HasTransitiveConflict, IsRefusedName}
use Rattle.std.specs.List.{AllZip}
use Rattle.wit_elaboration.specs.Elaboration.{graph_uses, elaborated_world}

-- the error that names the export at a place
abbrev pub IsErrorAt : Graph → World → ℕ → ResolveErrorKind → Type 0
IsErrorAt g world at e =
    (entry : Entry) × (slice_get world.exports at ≡ Some entry)
    × (e ≡ InvalidTransitiveDependency world.span (key_text g.packages g.interfaces entry.0))

-- a world with other lists in place of its own, where there are others
abbrev pub with_lists : World → Option Lists → World
with_lists world None = world
with_lists world (Some lists) = record world { imports = lists.imports; exports = lists.exports }

-- of each world its lists, which make of it the elaborated one
abbrev pub AreListsOf : Graph → List World → List (Option Lists) → Type 0
AreListsOf g worlds lists =
    AllZip (λ (world : World) (new : Option Lists). with_lists world new ≡ elaborated_world g world)
    worlds lists

-- some world is in conflict, and the error tells it: at its span, by the name that is refused
pub record IsRefusedWorld (g : Graph) (error : ResolveErrorKind) : Type 0 where
  pub world : World
  pub there : Contains g.worlds world
  pub conflict : HasTransitiveConflict (graph_uses g) world.exports
  pub name : List ℕ
  pub name_is : IsRefusedName g.packages g.interfaces (graph_uses g) world.exports name
  pub error_is : error ≡ InvalidTransitiveDependency world.span name
