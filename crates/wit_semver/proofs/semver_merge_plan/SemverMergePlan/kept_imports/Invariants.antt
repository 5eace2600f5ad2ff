use Rattle.std.proofs.Common.{◌≡◌, filter, not, take, length}
use Rattle.wit_elaboration.specs.Entries.{Entry}
use Rattle.wit_semver.specs.steps.Replacing.{semver_merge_of}
use Rattle.wit_semver.proofs.semver_merge_plan.SemverMergePlan.kept_imports.Given as goal
use Rattle.wit_semver.specs.steps.Parts.{is_replaced_entry}

-- those of the first imports that stay
abbrev pub invariant-loop-key : goal.invariant-loop-key
invariant-loop-key l = l.imports ≡ filter (λ (e : Entry). not (is_replaced_entry (semver_merge_of l.self) e)) (take (length l.yielded) l.self.world.now.imports)
