use Rattle.std.proofs.Common.{sym}
use Rattle.wit_transform.proofs.Steps.{agrees-none, agrees-some, disagrees}
use Rattle.wit_transform.proofs.interfaces.named_mismatch.Goals as goal

pub returns-in_default-clause-none : goal.returns-in_default-clause-none
returns-in_default-clause-none c = agrees-none c.args.into.now c.args.name.now c.args.function.now c.keys_differ.ensures.test (sym c.in_default.ensures)

pub returns-in_ok-format-in-Some-2-clause-some : goal.returns-in_ok-format-in-Some-2-clause-some
returns-in_ok-format-in-Some-2-clause-some c = disagrees c.args.into.now c.args.name.now c.args.function.now c.in-Some.other.now (sym c.in-Some.ensures) _ _ (rw c.in-Some-2.is at c.in_ok-text.ensures.some) c.in_ok-format-in-Some-2.ensures.ok

pub returns-in-None-clause-none : goal.returns-in-None-clause-none
returns-in-None-clause-none c = agrees-some c.args.into.now c.args.name.now c.args.function.now c.keys_differ.ensures.test c.in-Some.other.now (sym c.in-Some.ensures) (rw c.in-None.is at c.in_ok-text.ensures.none)
