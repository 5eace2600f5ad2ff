use Rattle.std.proofs.Common.{arith, rules}
use Rattle.wit_script_lines.proofs.Spaces.{trimmed_len_is}
use Rattle.wit_script_lines.proofs.line.trimmed_len.Goals as goal

pub returns-else-bytes-end-eq32-clause-value : goal.returns-else-bytes-end-eq32-clause-value
returns-else-bytes-end-eq32-clause-value c =
    trimmed_len_is c.as_bytes-bytes.result.now _ _ c.as_bytes-bytes.ensures.value c.loop-end.invariant.within c.loop-end.invariant.spaces (λ h. search rules)

pub returns-after-loop-end-clause-value : goal.returns-after-loop-end-clause-value
returns-after-loop-end-clause-value c =
    trimmed_len_is c.as_bytes-bytes.result.now _ _ c.as_bytes-bytes.ensures.value c.loop-end.invariant.within c.loop-end.invariant.spaces (λ h. absurd (omega arith))
