use Rattle.std.proofs.Common.{arith}
use Rattle.wit_script_lines.proofs.Arguments.{world_of-other}
use Rattle.wit_script_lines.proofs.request.read_world.Goals as goal
use Rattle.wit_script_lines.proofs.request.read_world.Goals.{in_default-via-then-arguments-lt2, in_default-via-else-arguments-lt2+else-arguments-lt3}

pub returns-in_default : goal.returns-in_default
returns-in_default c = world_of-other c.args.arguments.now (λ two. elim c.in_default.branch [
  | in_default-via-then-arguments-lt2 w ↦ grind (arith, two)
  | in_default-via-else-arguments-lt2+else-arguments-lt3 w ↦ grind (arith, two)
])
