use Rattle.std.proofs.Common.{take, length}
use Rattle.wit_transform.specs.Transformed.{AreAnswers}
use Rattle.wit_transform.proofs.transformations.answers_of.Given as goal

-- the answers so far
abbrev pub invariant-loop-key : goal.invariant-loop-key
invariant-loop-key g l = AreAnswers g.F.Fn l.filter (take (length l.yielded) l.imports) l.answers
