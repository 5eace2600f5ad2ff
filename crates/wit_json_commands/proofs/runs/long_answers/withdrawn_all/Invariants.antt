use Rattle.wit_json_commands.specs.steps.Withdrawn.{WithdrawsAll}
use Rattle.wit_json_commands.proofs.runs.long_answers.withdrawn_all.Given as goal

-- those so far
abbrev pub invariant-loop-reply : goal.invariant-loop-reply
invariant-loop-reply l = WithdrawsAll l.yielded l.left
