use Rattle.std.proofs.Common.{ℕ, arith, Contains}
use Rattle.std.proofs.lemmas.Bool.{false≢true}
use Rattle.wit_elaboration.proofs.Marking.{none_more, none_all}
use Rattle.wit_elaboration.proofs.conflict.has_any.Goals as goal

pub loop-node-preserved : goal.loop-node-preserved
loop-node-preserved c =
    none_more (λ (i : ℕ). Contains c.args.listing.now.order i) c.args.nodes.now c.loop-node.node-index (omega arith) c.loop-node.invariant (λ holds. false≢true (c.if-has.ensures.1 holds))

pub returns : goal.returns
returns c = (
  λ is. absurd (false≢true is),
  λ found. absurd (none_all (λ (i : ℕ). Contains c.args.listing.now.order i) c.args.nodes.now c.loop-node.node-index (omega arith) c.loop-node.invariant found.0 found.1 found.2),
)
