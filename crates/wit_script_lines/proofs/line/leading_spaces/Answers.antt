use Rattle.std.proofs.Common.{arith, rules}
use Rattle.wit_script_lines.proofs.Spaces.{leading_spaces_is}
use Rattle.wit_script_lines.proofs.line.leading_spaces.Goals as goal

pub returns-then-byte-ne32-clause-value : goal.returns-then-byte-ne32-clause-value
returns-then-byte-ne32-clause-value c =
    leading_spaces_is c.as_bytes-byte-items.result.now _ _ c.as_bytes-byte-items.ensures.value (omega arith) c.loop-index.invariant (λ h. search rules)

pub returns-clause-value : goal.returns-clause-value
returns-clause-value c = leading_spaces_is c.as_bytes-byte-items.result.now _ _ c.as_bytes-byte-items.ensures.value (omega arith) (λ k h. c.loop-index.invariant k (omega arith)) (λ h. absurd (omega arith))
