use Rattle.std.proofs.Common.{length}
use Rattle.std.specs.List.{flat_map}
use Rattle.wit_digraph.specs.PostOrder.{post_order}
use Rattle.wit_graph_data.specs.Queries.{type_contents}
use Rattle.wit_link_spec.specs.steps.AdditionRefs.{addition_of}
use Rattle.wit_link_resources.specs.steps.Borrows.{AreFreeTypes, IsBorrowThere}
use Rattle.wit_link_resources.proofs.Searching.{IsSearching}
use Rattle.wit_link_resources.proofs.borrows.may_hold_borrow.Given as goal

abbrev pub invariant-loop-place : goal.invariant-loop-place
invariant-loop-place l = record {
  searching : IsSearching (type_contents l.addition.unresolved.now.types) (IsBorrowThere (addition_of l.addition)) l.fn.id l.free.unresolved.keys l.stack;
  graph : AreFreeTypes l.addition.graph.now.types l.free.graph.keys;
}

abbrev pub decreases-loop-place : goal.decreases-loop-place
decreases-loop-place l = length (flat_map (post_order (type_contents l.addition.unresolved.now.types)) l.stack)
