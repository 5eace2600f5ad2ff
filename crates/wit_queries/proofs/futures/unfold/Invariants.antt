use Rattle.std.proofs.Common.{length}
use Rattle.std.specs.List.{flat_map}
use Rattle.wit_digraph.specs.PostOrder.{post_order}
use Rattle.wit_queries.proofs.Unfolds.{IsUnfolding}
use Rattle.wit_queries.proofs.futures.unfold.Given as goal

abbrev pub invariant-loop-place : goal.invariant-loop-place
invariant-loop-place l = IsUnfolding l.types l.held l.roots l.stack l.found.items

abbrev pub decreases-loop-place : goal.decreases-loop-place
decreases-loop-place l = length (flat_map (post_order l.held) l.stack)
