use Rattle.wit_json_commands.specs.Runs.{AnswersEach}
use Rattle.wit_json_commands.proofs.runs.orders.answers_to.Given as goal

-- those so far are answered
abbrev pub invariant-loop-request : goal.invariant-loop-request
invariant-loop-request l = AnswersEach l.initial.resolve l.yielded l.answers l.resolve
