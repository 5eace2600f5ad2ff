use native.Mathlib.Omega.{arith}
use Rattle.std.proofs.Common.{rules}
use Rattle.std.proofs.lemmas.Grind.{common_steps}
use Rattle.witgraph_dot.proofs.effect.add_versions.Goals as goal

pub loop-id-preserved : goal.loop-id-preserved
loop-id-preserved c = record { listed = grind (arith, common_steps); included = search rules }
