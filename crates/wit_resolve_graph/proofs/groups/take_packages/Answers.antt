use native.Mathlib.Omega.{arith}
use Rattle.std.proofs.lemmas.Grind.{common_steps}
use Rattle.wit_resolve_graph.proofs.groups.take_packages.Goals as goal

pub returns : goal.returns
returns c = grind (arith, common_steps)
