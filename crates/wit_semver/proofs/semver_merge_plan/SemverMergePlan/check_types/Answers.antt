use Rattle.std.proofs.Common.{◌≡◌, ◌≤◌, ℕ, List, length, take, sym, ap, subst, arith}
use Rattle.std.proofs.lemmas.List.{take_all}
use Rattle.wit_values.specs.facts.Lists.{take-next_at}
use Rattle.wit_semver.specs.steps.Replacing.{LackTypes, semver_merge_of}
use Rattle.wit_semver.proofs.Used.{none_lacks-next, stands}
use Rattle.wit_semver.proofs.semver_merge_plan.SemverMergePlan.check_types.Goals as goal

pub loop-id-preserved : goal.loop-id-preserved
loop-id-preserved c message =
    let types_of_new_entries = c.args.types_of_new_entries.now in
    let u = semver_merge_of c.args.self.now in
    let id = c.id-item.result in
    let ids = take c.loop-id.id-index types_of_new_entries in
    let at = stands types_of_new_entries c.as_slice-id-items.result.now c.loop-id.id-index id c.as_slice-id-items.ensures c.loop-id-test.true c.id-item.is in
    subst (λ (is : List ℕ). LackTypes u is message → ⊥) (sym (take-next_at types_of_new_entries c.loop-id.id-index id at))
    (none_lacks-next u ids id message c.loop-id.invariant c.in_ok-check_type.ensures.complete)

pub returns-clause-complete : goal.returns-clause-complete
returns-clause-complete c message =
    let types_of_new_entries = c.args.types_of_new_entries.now in
    let long : length c.as_slice-id-items.result.now ≡ length types_of_new_entries = ap length c.as_slice-id-items.ensures in
    let past : length types_of_new_entries ≤ c.loop-id.id-index = omega (arith, long, c.loop-id-test.false) in
    subst (λ (is : List ℕ). LackTypes (semver_merge_of c.args.self.now) is message → ⊥) (take_all c.loop-id.id-index types_of_new_entries past) (c.loop-id.invariant message)
