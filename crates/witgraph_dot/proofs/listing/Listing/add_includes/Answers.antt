use native.Mathlib.Omega.{arith}
use Rattle.std.proofs.Common.{rules}
use Rattle.std.proofs.lemmas.Grind.{common_steps}
use Rattle.witgraph_dot.proofs.listing.Listing.add_includes.Goals as goal

pub loop-other-preserved : goal.loop-other-preserved
loop-other-preserved c = record { included = grind (arith, common_steps); listed = search rules }
