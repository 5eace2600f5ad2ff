use Rattle.std.proofs.Common.{◌≡◌, ◌++◌}
use Rattle.wit_link_resources.specs.steps.Active.{active_entries, seen}
use Rattle.wit_link_resources.proofs.functions.push_entries.Given as goal

-- what has been added, and what those will add that are left
abbrev pub invariant-loop-item : goal.invariant-loop-item
invariant-loop-item l = seen l.functions.items ++ active_entries l.features l.item-iterator ≡ seen l.fn.functions.items ++ active_entries l.features l.entries
