use Rattle.std.proofs.Common.{◌∙◌}
use Rattle.wit_labels.proofs.PlacingSteps.{moved-all, moved-next}
use Rattle.wit_labels.proofs.placing.items_of.Goals as goal

pub loop-key-init : goal.loop-key-init
loop-key-init c = rw c.new-items.ensures (c.into_iter-key-iterator.ensures.into_iter_gives ∙ c.into_pairs-key-items.ensures)

pub loop-key-preserved : goal.loop-key-preserved
loop-key-preserved c =
    moved-next c.loop-key.items c.loop-key.key-iterator c.next.new.self c.args.entries c.push.new.self (c.in-Some.key, c.in-Some.item) c.loop-key.invariant c.in-Some.ensures.steps c.in_ok-push.ensures.ok

pub returns : goal.returns
returns c = moved-all c.loop-key.items c.loop-key.key-iterator c.args.entries c.loop-key.invariant c.in-None.ensures.steps.0
