-- The elaboration of one world of a graph.
use Rattle.std.specs.Prelude.{ℕ, ◌≡◌, ◌<◌, List, Some, length, slice_get, slice_set, map}
use Rattle.std.specs.Option.{ForSome}
use Rattle.wit_data.specs.Uses.{uses_of}
use Rattle.wit_data.specs.declared.world.World.{World}
use Rattle.wit_digraph.specs.Relation.{IsAcyclic}
use Rattle.wit_graph_data.specs.declared.graph.Graph.{Graph}
use Rattle.wit_graph_data.specs.declared.error_kind.ResolveErrorKind.{ResolveErrorKind}
use Rattle.wit_graph_data.specs.declared.error_kind.ResolveErrorKind.TheVariants.{InvalidTransitiveDependency}
use Rattle.wit_elaboration.specs.Elaborated.{Elaborated, with_elaborated_lists}
use Rattle.wit_elaboration.specs.Imported.{HasTransitiveConflict, IsRefusedName}
use Rattle.wit_elaboration.specs.Sound.{HasSoundEntries}

-- which interfaces of a graph use which
abbrev pub graph_uses : Graph → List (List ℕ)
graph_uses g = uses_of g.types g.interfaces

-- the keys and ids of the world at a place are in order
abbrev pub HasSoundEntriesAt : Graph → ℕ → Type 0
HasSoundEntriesAt g id =
    ForSome (slice_get g.worlds id)
    (λ (world : World). HasSoundEntries g.types (length g.interfaces) world.imports world.exports)

-- the exports of the world at a place are in conflict
abbrev pub HasConflictAt : Graph → ℕ → Type 0
HasConflictAt g id =
    (world : World) × (slice_get g.worlds id ≡ Some world)
    × HasTransitiveConflict (graph_uses g) world.exports

-- the world at a place is elaborated, and all else is as it was
abbrev pub ElaboratesWorld : Graph → ℕ → Graph → Type 0
ElaboratesWorld old id new =
    (before : World) × (after : World) × (slice_get old.worlds id ≡ Some before)
    × Elaborated old.types (graph_uses old) before after
    × (new ≡ record old { worlds = slice_set old.worlds id after })

-- the exports of a world are in conflict, and the error has its span and the name of the first export that leads there
abbrev pub IsConflictError : Graph → World → ResolveErrorKind → Type 0
IsConflictError g world error =
    (name : List ℕ) × (error ≡ InvalidTransitiveDependency world.span name)
    × HasTransitiveConflict (graph_uses g) world.exports
    × IsRefusedName g.packages g.interfaces (graph_uses g) world.exports name

-- the exports of world id are in conflict, and the error says so
abbrev pub IsElaborationError : Graph → ℕ → ResolveErrorKind → Type 0
IsElaborationError g id error =
    (world : World) × (slice_get g.worlds id ≡ Some world) × IsConflictError g world error

-- a world can be elaborated: it is there, its keys and ids are in order, and uses are acyclic
pub record CanElaborate (g : Graph) (id : ℕ) : Type 0 where
  pub there : id < length g.worlds
  pub acyclic : IsAcyclic (graph_uses g)
  pub listed : HasSoundEntriesAt g id

-- All worlds of a graph elaborated, and with which error that is refused.

-- a world with its lists elaborated, over the types and interfaces of a graph
abbrev pub elaborated_world : Graph → World → World
elaborated_world g world = with_elaborated_lists g.types (graph_uses g) world

-- the graph with all its worlds elaborated
abbrev pub all_elaborated : Graph → Graph
all_elaborated g = record g { worlds = map (elaborated_world g) g.worlds }
