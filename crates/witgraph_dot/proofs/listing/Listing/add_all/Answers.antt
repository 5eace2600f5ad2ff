use native.Mathlib.Omega.{arith}
use Rattle.std.proofs.Common.{rules}
use Rattle.std.proofs.lemmas.Grind.{common_steps}
use Rattle.witgraph_dot.proofs.listing.Listing.add_all.Goals as goal

pub loop-interface-preserved : goal.loop-interface-preserved
loop-interface-preserved c = record { listed = grind (arith, common_steps); included = search rules }
