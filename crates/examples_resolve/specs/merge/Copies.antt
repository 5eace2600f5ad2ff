-- What stays as it is where the one graph is empty, both are the same, or what comes changes nothing.
use Rattle.std.specs.Prelude.{[], ◌∷◌, None, Some, codes}
use Rattle.wit_data.specs.declared.types.Handle.TheVariants as handle
use Rattle.wit_data.specs.declared.types.Type_.TheVariants as type
use Rattle.wit_data.specs.declared.types.TypeDefKind.TheVariants as kind
use Rattle.wit_elaboration.specs.examples.Examples.{empty_graph}
use Rattle.wit_graph_data.specs.declared.cause.Cause.TheVariants as cause
use Rattle.wit_graph_data.specs.declared.error_kind.ResolveErrorKind.TheVariants.{Semantic}
use Rattle.wit_graph_data.specs.declared.graph.Graph.{Graph}
use Rattle.wit_graph_data.specs.examples.Samples.{function_of, type_in, world_of}
use Rattle.wit_merge_spec.specs.Cause.{IsMergeCause, MergeIsAccepted}
use Rattle.wit_merge_spec.specs.steps.Leaving.{LeavesGraph}
use Rattle.wit_merge_laws.specs.laws.CopyLaws.{KeepsIds, StaysItself}
use Rattle.examples_resolve.specs.merge.Graphs.{b_uses_a, inner, merge_of_graphs, only_c, three, two_numbers}

-- an interface without a name under label x of world w, with a resource r, a borrow t of it and a function f that returns t;
-- and the same interface in no world, as when the world is importized
abbrev pub inner_borrow : Graph
inner_borrow =
    inner ((codes "r", 0) ∷ (codes "t", 1) ∷ []) (type_in 0 (codes "r") kind.Resource
    ∷ type_in 0 (codes "t") (kind.Handle (handle.Borrow 0)) ∷ [])
    (function_of (codes "f") [] (Some (type.Id 1)) ∷ [])

abbrev pub lost_borrow : Graph
lost_borrow = record inner_borrow { worlds = world_of (codes "w") [] [] ∷ [] }

pub record ExamplesOfCopies : Type 0 where
  -- a graph that goes into an empty one keeps its ids; into another its things go behind what is there
  pub keeps_ids : KeepsIds (merge_of_graphs empty_graph three)
  pub behind_others : KeepsIds (merge_of_graphs only_c b_uses_a) → ⊥
  -- with a copy of itself it stays as it is; with a graph of which one type has another name it gets that too
  pub stays : StaysItself three (merge_of_graphs three three)
  pub type_comes : StaysItself (two_numbers (codes "u"))
      (merge_of_graphs (two_numbers (codes "u")) (two_numbers (codes "v"))) → ⊥
  -- a graph that has no package of it leaves it as it is; one that brings a type to an interface doesn't
  pub leaves : LeavesGraph (merge_of_graphs only_c b_uses_a)
  pub brings_type : LeavesGraph
      (merge_of_graphs (two_numbers (codes "u")) (two_numbers (codes "v"))) → ⊥
  -- a copy is refused where it brings a function that returns a borrow, which one that is placed doesn't
  pub placed_accepted : MergeIsAccepted (merge_of_graphs inner_borrow inner_borrow)
  pub lost_refused : IsMergeCause (merge_of_graphs lost_borrow lost_borrow)
      (Semantic None
      (codes "function `f` returns a type which contains a `borrow<T>` which is not supported")
      cause.BorrowInResult)
