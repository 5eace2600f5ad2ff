use Rattle.std.proofs.Common.{ℕ, List, take}
use Rattle.wit_semver.specs.steps.Replacing.{LackTypes, semver_merge_of}
use Rattle.wit_semver.proofs.semver_merge_plan.SemverMergePlan.check_types.Given as goal

-- none of the first ones lacks a type
abbrev pub invariant-loop-id : goal.invariant-loop-id
invariant-loop-id l = (message : List ℕ) → LackTypes (semver_merge_of l.self) (take l.id-index l.types_of_new_entries) message → ⊥
