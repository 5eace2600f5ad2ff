use Rattle.std.proofs.Common.{◌≡◌}
use Rattle.wit_json_commands.specs.Tells.{function_under}
use Rattle.wit_json_commands.proofs.questions.functions.function_under.Given as goal

-- those that are left decide
abbrev pub invariant-loop-key : goal.invariant-loop-key
invariant-loop-key l = function_under l.label l.entries ≡ function_under l.label l.key-iterator
