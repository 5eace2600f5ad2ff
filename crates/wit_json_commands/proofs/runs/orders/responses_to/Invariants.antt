use Rattle.wit_json_commands.specs.Runs.{RespondsEach}
use Rattle.wit_json_commands.proofs.runs.orders.responses_to.Given as goal

-- those so far are answered
abbrev pub invariant-loop-order : goal.invariant-loop-order
invariant-loop-order l = RespondsEach l.initial.resolve l.yielded l.replies l.resolve
