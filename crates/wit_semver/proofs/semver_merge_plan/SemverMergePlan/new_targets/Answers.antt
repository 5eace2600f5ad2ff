use Rattle.std.proofs.Common.{ℕ, List, take, sym, subst}
use Rattle.wit_values.specs.facts.Lists.{take-next_at}
use Rattle.wit_semver.specs.SemverMerged.{newest_type}
use Rattle.wit_semver.specs.steps.Replacing.{IsFilled, semver_merge_of}
use Rattle.wit_semver.proofs.Used.{stands}
use Rattle.wit_semver.proofs.semver_merge_plan.SemverMergePlan.new_targets.Goals as goal

pub loop-id-preserved : goal.loop-id-preserved
loop-id-preserved c =
    let types_of_new_entries = c.args.types_of_new_entries.now in
    let f = newest_type (semver_merge_of c.args.self.now) in
    let id = c.id-item.result in
    let ids = take c.loop-id.id-index types_of_new_entries in
    let at = stands types_of_new_entries c.as_slice-id-items.result.now c.loop-id.id-index id c.as_slice-id-items.ensures c.loop-id-test.true c.id-item.is in
    subst (λ (is : List ℕ). IsFilled f is c.note.new.found) (sym (take-next_at types_of_new_entries c.loop-id.id-index id at))
    (c.in_ok-note.ensures f ids c.new_target.ensures c.loop-id.invariant)
