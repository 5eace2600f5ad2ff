use Rattle.std.proofs.Common.{length}
use Rattle.std.specs.List.{flat_map}
use Rattle.wit_digraph.specs.PostOrder.{post_order}
use Rattle.wit_graph_data.specs.Queries.{type_contents}
use Rattle.wit_link_resources.proofs.Searching.{IsSearching}
use Rattle.wit_link_resources.proofs.borrows.holds_borrow.Given as goal
use Rattle.wit_remap_spec.specs.steps.Parts.{IsBorrow}

abbrev pub invariant-loop-place : goal.invariant-loop-place
invariant-loop-place l = IsSearching (type_contents l.types) (IsBorrow l.types) l.fn.id l.free.keys l.stack

abbrev pub decreases-loop-place : goal.decreases-loop-place
decreases-loop-place l = length (flat_map (post_order (type_contents l.types)) l.stack)
