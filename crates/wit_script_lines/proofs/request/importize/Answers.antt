use Rattle.std.proofs.Common.{arith}
use Rattle.wit_script_lines.proofs.Arguments.{importize_of-other}
use Rattle.wit_script_lines.proofs.request.importize.Goals as goal
use Rattle.wit_script_lines.proofs.request.importize.Goals.{in_default-via-then-arguments-lt2, in_default-via-else-arguments-lt2+else-arguments-lt3+else-arguments-lt4}

pub returns-in_default : goal.returns-in_default
returns-in_default c =
    importize_of-other c.args.arguments.now
    (λ two. elim c.in_default.branch [ in_default-via-then-arguments-lt2 w ↦ grind (arith, two) | in_default-via-else-arguments-lt2+else-arguments-lt3+else-arguments-lt4 w ↦ grind (arith, two) ])
    (λ three. elim c.in_default.branch [ in_default-via-then-arguments-lt2 w ↦ grind (arith, three) | in_default-via-else-arguments-lt2+else-arguments-lt3+else-arguments-lt4 w ↦ grind (arith, three) ])
