use Rattle.std.proofs.Common.{subst}
use Rattle.wit_digraph.proofs.Marks.{MarksAreOf, MarksAreOf-unset, listed_from}
use Rattle.wit_digraph.proofs.post_order.Listing.clear.Goals as goal

pub loop-index-preserved : goal.loop-index-preserved
loop-index-preserved c =
    let more = listed_from c.loop-index.self-inside.order c.loop-index.index c.at-node.result.now c.at-node.ensures in
    record {
      same = c.loop-index.invariant.same;
      nodes = c.loop-index.invariant.nodes;
      marks_are_of = MarksAreOf-unset _ _ _ _ (subst (MarksAreOf c.loop-index.self-inside.nodes c.loop-index.self-inside.marks.items) more c.loop-index.invariant.marks_are_of);
    }
