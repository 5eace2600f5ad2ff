use Rattle.std.proofs.Common.{◌≡◌, ◌∙◌, ◌≤◌, List, Some, Contains, length, slice_get, sym, subst, arith}
use Rattle.std.specs.Map.{keys_of}
use Rattle.std.proofs.lemmas.List.{length_push}
use Rattle.std.proofs.lemmas.Map.Iter.{iter_end, iter_turn}
use Rattle.std.specs.Map.Iter.{deref_pair}
use Rattle.wit_data.specs.declared.world.WorldKey.{WorldKey}
use Rattle.wit_data.specs.declared.world.WorldKey.TheVariants as key
use Rattle.wit_elaboration.specs.Entries.{Entry}
use Rattle.wit_transform.specs.facts.Looked.{key_found, key_not_found, no_label-next, take_whole}
use Rattle.wit_transform.proofs.new_lists.common_label.Goals as goal

pub returns-then-contains_key-clause-some : goal.returns-then-contains_key-clause-some
returns-then-contains_key-clause-some c =
    let turn = iter_turn deref_pair c.args.exports.now c.loop-key.yielded _ _ _ _ (c.into_iter-key-iterator.ensures.into_iter_gives ∙ c.iter-key-items.ensures.rest) c.loop-key.yielded_by _ c.in-Some.is c.next.ensures.steps in
    record {
      index = length c.loop-key.yielded;
      item = c.in-Some.field-0-1.now;
      here = subst (λ (k : WorldKey). slice_get c.args.exports.now (length c.loop-key.yielded) ≡ Some (k, c.in-Some.field-0-1.now)) c.in-Name.is turn.1;
      common = subst (Contains (keys_of c.args.entries.now)) c.in-Name.is (key_found c.args.entries.now c.in-Some.key.now (sym c.contains_key.ensures ∙ c.if-contains_key.true));
      first = c.loop-key.invariant;
    }

pub loop-key-preserved-else-contains_key : goal.loop-key-preserved-else-contains_key
loop-key-preserved-else-contains_key c =
    let turn = iter_turn deref_pair c.args.exports.now c.loop-key.yielded _ _ _ _ (c.into_iter-key-iterator.ensures.into_iter_gives ∙ c.iter-key-items.ensures.rest) c.loop-key.yielded_by _ c.in-Some.is c.next.ensures.steps in
    rw length_push
    (no_label-next c.args.exports.now (length c.loop-key.yielded) c.in-Some.key.now c.in-Some.field-0-1.now (λ label. Contains (keys_of c.args.entries.now) (key.Name label)) turn.1 c.loop-key.invariant
    (λ label is has. key_not_found c.args.entries.now c.in-Some.key.now (sym c.contains_key.ensures ∙ c.if-contains_key.false) (subst (Contains (keys_of c.args.entries.now)) (sym is) has)))

pub loop-key-preserved : goal.loop-key-preserved
loop-key-preserved c =
    let turn = iter_turn deref_pair c.args.exports.now c.loop-key.yielded _ _ _ _ (c.into_iter-key-iterator.ensures.into_iter_gives ∙ c.iter-key-items.ensures.rest) c.loop-key.yielded_by _ c.in-Some.is c.next.ensures.steps in
    rw length_push
    (no_label-next c.args.exports.now (length c.loop-key.yielded) c.in-Some.key.now c.in-Some.field-0-1.now (λ label. Contains (keys_of c.args.entries.now) (key.Name label)) turn.1 c.loop-key.invariant
    (λ label is has. let never = sym c.in-Interface.is ∙ is in cc))

pub returns-clause-none : goal.returns-clause-none
returns-clause-none c =
    λ label has other.
    let end = iter_end deref_pair c.args.exports.now c.loop-key.yielded _ _ _ _ (c.into_iter-key-iterator.ensures.into_iter_gives ∙ c.iter-key-items.ensures.rest) c.loop-key.yielded_by c.in-None.is c.next.ensures.steps in
    let long = end.1 in
    let reached : length c.args.exports.now ≤ length c.loop-key.yielded = omega arith in
    c.loop-key.invariant label (subst (λ (es : List Entry). Contains (keys_of es) (key.Name label)) (sym (take_whole c.args.exports.now (length c.loop-key.yielded) reached)) has) other
