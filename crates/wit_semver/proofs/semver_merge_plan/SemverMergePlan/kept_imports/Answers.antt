use Rattle.std.proofs.Common.{◌∙◌, ◌++◌, ◌∷◌, [], List, length, not, refl, sym, ap}
use Rattle.std.specs.Map.{lookup}
use Rattle.std.proofs.lemmas.List.{length_push}
use Rattle.std.proofs.lemmas.Map.Iter.{iter_turn}
use Rattle.std.specs.Map.Iter.{deref_pair}
use Rattle.wit_data.specs.contracts.world.WorldKeyPartialEq.TheImpl.{eq-value}
use Rattle.wit_elaboration.specs.Entries.{Entry}
use Rattle.wit_transform.specs.facts.Looked.{filter-next_kept, filter-next_left}
use Rattle.wit_semver.specs.steps.Replacing.{semver_merge_of}
use Rattle.wit_semver.proofs.KeptTold.{staying_is_new, stays_is}
use Rattle.wit_semver.proofs.semver_merge_plan.SemverMergePlan.kept_imports.Goals as goal
use Rattle.wit_semver.specs.steps.Parts.{is_replaced_entry}

pub push_copy-requires : goal.push_copy-requires
push_copy-requires c =
    let turn = iter_turn deref_pair c.args.self.now.world.now.imports c.loop-key.yielded _ _ _ _ (c.into_iter-key-iterator.ensures.into_iter_gives ∙ c.iter-key-items.ensures.rest) c.loop-key.yielded_by _ c.in-Some.is c.next.ensures.steps in
    let p = λ (e : Entry). not (is_replaced_entry (semver_merge_of c.args.self.now) e) in
    let e : Entry = (c.in-Some.key.now, c.in-Some.item.now) in
    ap (lookup (eq-value.it e.0)) c.loop-key.invariant ∙ staying_is_new p c.args.self.now.world.now.imports (length c.loop-key.yielded) e c.iter-key-items.ensures.distinct turn.1

pub loop-key-preserved-in-Continue-1 : goal.loop-key-preserved-in-Continue-1
loop-key-preserved-in-Continue-1 c =
    let turn = iter_turn deref_pair c.args.self.now.world.now.imports c.loop-key.yielded _ _ _ _ (c.into_iter-key-iterator.ensures.into_iter_gives ∙ c.iter-key-items.ensures.rest) c.loop-key.yielded_by _ c.in-Some.is c.next.ensures.steps in
    let u = semver_merge_of c.args.self.now in
    let p = λ (e : Entry). not (is_replaced_entry u e) in
    let imports = c.args.self.now.world.now.imports in
    let e : Entry = (c.in-Some.key.now, c.in-Some.item.now) in
    let told = stays_is u c.args.self.now.replaced c.requires e.0 c.is_replaced.result e refl c.is_replaced.ensures in
    rw length_push
    (c.in_ok-push_copy.ensures ∙ ap (λ (es : List Entry). es ++ e ∷ []) c.loop-key.invariant
    ∙ sym (filter-next_kept p imports (length c.loop-key.yielded) e turn.1 (ap not (told ∙ c.if-not-is_replaced.true))))

pub loop-key-preserved : goal.loop-key-preserved
loop-key-preserved c =
    let turn = iter_turn deref_pair c.args.self.now.world.now.imports c.loop-key.yielded _ _ _ _ (c.into_iter-key-iterator.ensures.into_iter_gives ∙ c.iter-key-items.ensures.rest) c.loop-key.yielded_by _ c.in-Some.is c.next.ensures.steps in
    let u = semver_merge_of c.args.self.now in
    let p = λ (e : Entry). not (is_replaced_entry u e) in
    let imports = c.args.self.now.world.now.imports in
    let e : Entry = (c.in-Some.key.now, c.in-Some.item.now) in
    let told = stays_is u c.args.self.now.replaced c.requires e.0 c.is_replaced.result e refl c.is_replaced.ensures in
    rw length_push
    (c.loop-key.invariant ∙ sym (filter-next_left p imports (length c.loop-key.yielded) e turn.1 (ap not (told ∙ c.if-not-is_replaced.false))))
