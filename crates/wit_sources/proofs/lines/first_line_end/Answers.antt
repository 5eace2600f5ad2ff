use Rattle.std.proofs.Common.{arith, rules}
use Rattle.wit_sources.proofs.LineLemmas.{first_line_is}
use Rattle.wit_sources.proofs.lines.first_line_end.Goals as goal

pub returns-then-byte-eq10-clause-value : goal.returns-then-byte-eq10-clause-value
returns-then-byte-eq10-clause-value c = first_line_is c.args.bytes.now _ (omega arith) c.loop-index.invariant (λ h. search rules)

pub returns-clause-value : goal.returns-clause-value
returns-clause-value c = first_line_is c.args.bytes.now _ (omega arith) (λ k h. c.loop-index.invariant k (omega arith)) (λ h. absurd (omega arith))
