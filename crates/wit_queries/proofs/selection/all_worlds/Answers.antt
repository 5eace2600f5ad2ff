use native.Mathlib.Omega.{arith}
use Rattle.std.proofs.lemmas.Grind.{common_steps}
use Rattle.wit_queries.proofs.selection.all_worlds.Goals as goal

pub loop-world-preserved : goal.loop-world-preserved
loop-world-preserved c = grind (arith, common_steps)
