use native.Mathlib.Omega.{arith}
use Rattle.std.proofs.lemmas.Grind.{common_steps}
use Rattle.wit_digraph.proofs.cycle.find_cycle.Goals as goal

pub loop-root-preserved : goal.loop-root-preserved
loop-root-preserved c = grind (arith, common_steps)
