use Rattle.std.proofs.Common.{◌≡◌, ◌<◌, ℕ, List, Some, slice_get}
use Rattle.wit_semver.specs.SemverMerged.{Disagrees}
use Rattle.wit_semver.specs.steps.Replacing.{semver_merge_of}
use Rattle.wit_semver.proofs.semver_merge_plan.SemverMergePlan.check_functions.Given as goal

-- the first ones agree
abbrev pub invariant-loop-index : goal.invariant-loop-index
invariant-loop-index l =
    (k : ℕ) (e : ℕ × ℕ) → k < l.index → slice_get l.self.replaced k ≡ Some e
    → (message : List ℕ) → Disagrees (semver_merge_of l.self) e.0 message → ⊥
