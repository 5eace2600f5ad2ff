use Rattle.std.proofs.Common.{take}
use Rattle.wit_semver.specs.SemverMerged.{newest_type}
use Rattle.wit_semver.specs.steps.Replacing.{IsFilled, semver_merge_of}
use Rattle.wit_semver.proofs.semver_merge_plan.SemverMergePlan.new_targets.Given as goal

-- it is told what the first ones name
abbrev pub invariant-loop-id : goal.invariant-loop-id
invariant-loop-id l = IsFilled (newest_type (semver_merge_of l.self)) (take l.id-index l.types_of_new_entries) l.targets
