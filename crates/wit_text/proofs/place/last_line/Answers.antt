use Rattle.std.proofs.Common.{arith, rules}
use Rattle.wit_text.proofs.Lengths.{last_line_is}
use Rattle.wit_text.proofs.place.last_line.Goals as goal

pub returns-else-bytes-start-ne10-clause-value : goal.returns-else-bytes-start-ne10-clause-value
returns-else-bytes-start-ne10-clause-value c =
    last_line_is c.args.bytes.now _ c.loop-start.invariant.within c.loop-start.invariant.line (λ h. search rules)

pub returns-after-loop-start-clause-value : goal.returns-after-loop-start-clause-value
returns-after-loop-start-clause-value c =
    last_line_is c.args.bytes.now _ c.loop-start.invariant.within c.loop-start.invariant.line (λ h. absurd (omega arith))
