use Rattle.wit_json_commands.specs.steps.Withdrawn.{WithdrawsEach}
use Rattle.wit_json_commands.proofs.runs.long_answers.withdrawn_each.Given as goal

-- those so far
abbrev pub invariant-loop-answer : goal.invariant-loop-answer
invariant-loop-answer l = WithdrawsEach l.yielded l.left
