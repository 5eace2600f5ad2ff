use Rattle.std.proofs.Common.{◌∙◌, Contains, arith, refl, sym}
use Rattle.std.proofs.lemmas.Bool.{false≢true}
use Rattle.wit_elaboration.proofs.CompleteWorlds.{listed_all, listed_more, listed_not}
use Rattle.wit_elaboration.proofs.complete.has_all.Goals as goal

pub returns-then-not-has : goal.returns-then-not-has
returns-then-not-has c = listed_not (Contains c.args.listing.now.order) c.args.nodes.now c.loop-node.node-index (omega arith) (λ holds. false≢true (sym c.if-not-has.true ∙ c.has.ensures.1 holds))

pub loop-node-preserved : goal.loop-node-preserved
loop-node-preserved c = listed_more (Contains c.args.listing.now.order) c.args.nodes.now c.loop-node.node-index (omega arith) c.loop-node.invariant (c.has.ensures.0 c.if-not-has.false)

pub returns : goal.returns
returns c = (λ _. listed_all (Contains c.args.listing.now.order) c.args.nodes.now c.loop-node.node-index (omega arith) c.loop-node.invariant, λ _. refl)
