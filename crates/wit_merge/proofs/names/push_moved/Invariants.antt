use Rattle.std.proofs.Common.{◌≡◌, ◌++◌}
use Rattle.wit_merge.specs.steps.MergeSteps.{moved_names}
use Rattle.wit_merge.proofs.names.push_moved.Given as goal

-- what has been added, and what those will add that are left
abbrev pub invariant-loop-name : goal.invariant-loop-name
invariant-loop-name g l = l.into ++ moved_names l.found l.new_ids l.name-iterator ≡ l.fn.into ++ moved_names l.found l.new_ids l.from
