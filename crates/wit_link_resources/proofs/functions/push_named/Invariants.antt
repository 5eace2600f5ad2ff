use Rattle.std.proofs.Common.{◌≡◌, ◌++◌}
use Rattle.wit_link_resources.specs.steps.Active.{active_named, seen}
use Rattle.wit_link_resources.proofs.functions.push_named.Given as goal

-- what has been added, and what those will add that are left
abbrev pub invariant-loop-function : goal.invariant-loop-function
invariant-loop-function l = seen l.functions.items ++ active_named l.features l.function-iterator ≡ seen l.fn.functions.items ++ active_named l.features l.named
