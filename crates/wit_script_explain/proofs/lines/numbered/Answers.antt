use native.Mathlib.Omega.{arith}
use Rattle.std.proofs.lemmas.Grind.{common_steps}
use Rattle.wit_script_explain.proofs.lines.numbered.Goals as goal

pub loop-line-preserved : goal.loop-line-preserved
loop-line-preserved c = grind (arith, common_steps)
