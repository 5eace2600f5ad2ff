use native.Mathlib.Omega.{arith}
use Rattle.std.proofs.lemmas.Grind.{common_steps}
use Rattle.wit_link.proofs.refusal.defined_twice_error.Goals as goal

pub returns-in_default-moved : goal.returns-in_default-moved
returns-in_default-moved c = grind (arith, common_steps)

pub returns : goal.returns
returns c = grind (arith, common_steps)
