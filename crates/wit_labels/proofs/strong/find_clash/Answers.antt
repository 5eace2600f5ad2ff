use Rattle.std.proofs.Common.{◌≡◌, ◌∙◌, ◌++◌, ◌∷◌, [], List, ℕ, ap, sym, subst, Some, None, length, slice_get, refl, arith}
use Rattle.std.proofs.lemmas.List.{length-map, length_push}
use Rattle.std.proofs.lemmas.Map.Iter.{iter_end, iter_turn}
use Rattle.std.specs.Map.{keys_of, lookup}
use Rattle.std.specs.Map.Iter.{deref_pair}
use Rattle.wit_data.specs.Entries.{Entry}
use Rattle.wit_data.specs.declared.world.WorldKey.TheVariants as key
use Rattle.wit_labels.specs.Strong.{strong_key}
use Rattle.wit_labels.specs.contracts.strong.StrongKeyPartialEq.TheImpl.{eq-value}
use Rattle.wit_labels.specs.declared.strong.StrongKey.{StrongKey}
use Rattle.wit_labels.proofs.Clashing.{met-all, met-clash, met-label, met-none, met-other, slice_get-map}
use Rattle.wit_labels.proofs.strong.find_clash.Goals as goal

pub loop-key-init : goal.loop-key-init
loop-key-init c = rw c.new-met.ensures (met-none (keys_of c.args.entries.now))

pub returns-in-Some-get-clause-some : goal.returns-in-Some-get-clause-some
returns-in-Some-get-clause-some c =
    let turn = iter_turn deref_pair c.args.entries.now c.loop-key.yielded _ _ _ _ (c.into_iter-key-iterator.ensures.into_iter_gives ∙ c.iter-key-items.ensures.rest) c.loop-key.yielded_by _ c.in-Some.is c.next.ensures.steps in
    let at = slice_get-map (λ (e : Entry). e.0) c.args.entries.now (length c.loop-key.yielded) _ turn.1 in
    let here : slice_get (keys_of c.args.entries.now) (length c.loop-key.yielded) ≡ Some (key.Name c.as_str-label.result.now) = cc (at, c.in-Name.is, c.as_str-label.ensures) in
    let found : lookup (eq-value.it (strong_key c.as_str-label.result.now)) c.loop-key.met ≡ Some c.in-Some-get.earlier.now =
    subst (λ (k : StrongKey). lookup (eq-value.it k) c.loop-key.met ≡ Some c.in-Some-get.earlier.now) c.in_ok-strong-in-Name.ensures (sym c.in-Some-get.ensures) in
    met-clash (keys_of c.args.entries.now) (length c.loop-key.yielded) c.loop-key.met c.as_str-label.result.now c.in-Some-get.earlier.now c.loop-key.invariant here found

pub loop-key-preserved-in-Continue-branch-2 : goal.loop-key-preserved-in-Continue-branch-2
loop-key-preserved-in-Continue-branch-2 c =
    let turn = iter_turn deref_pair c.args.entries.now c.loop-key.yielded _ _ _ _ (c.into_iter-key-iterator.ensures.into_iter_gives ∙ c.iter-key-items.ensures.rest) c.loop-key.yielded_by _ c.in-Some.is c.next.ensures.steps in
    let at = slice_get-map (λ (e : Entry). e.0) c.args.entries.now (length c.loop-key.yielded) _ turn.1 in
    let here : slice_get (keys_of c.args.entries.now) (length c.loop-key.yielded) ≡ Some (key.Name c.as_str-label.result.now) = cc (at, c.in-Name.is, c.as_str-label.ensures) in
    let absent : lookup (eq-value.it (strong_key c.as_str-label.result.now)) c.loop-key.met ≡ None =
    subst (λ (k : StrongKey). lookup (eq-value.it k) c.loop-key.met ≡ None) c.in_ok-strong-in-Name.ensures (sym c.in_default.ensures) in
    let table = c.in_ok-push-in-Name.ensures.ok ∙ ap (λ (k : StrongKey). c.loop-key.met ++ (k, c.as_str-label.result) ∷ []) c.in_ok-strong-in-Name.ensures in
    rw (table, length_push) (met-label (keys_of c.args.entries.now) (length c.loop-key.yielded) c.loop-key.met c.as_str-label.result.now c.as_str-label.result c.loop-key.invariant here refl absent)

pub loop-key-preserved : goal.loop-key-preserved
loop-key-preserved c =
    let turn = iter_turn deref_pair c.args.entries.now c.loop-key.yielded _ _ _ _ (c.into_iter-key-iterator.ensures.into_iter_gives ∙ c.iter-key-items.ensures.rest) c.loop-key.yielded_by _ c.in-Some.is c.next.ensures.steps in
    let at = slice_get-map (λ (e : Entry). e.0) c.args.entries.now (length c.loop-key.yielded) _ turn.1 in
    let other : (m : List ℕ) → slice_get (keys_of c.args.entries.now) (length c.loop-key.yielded) ≡ Some (key.Name m) → ⊥ = λ (m : List ℕ) there. cc (at, c.in-Interface.is, there) in
    rw length_push (met-other (keys_of c.args.entries.now) (length c.loop-key.yielded) c.loop-key.met c.loop-key.invariant other)

pub returns-clause-none : goal.returns-clause-none
returns-clause-none c =
    let end = iter_end deref_pair c.args.entries.now c.loop-key.yielded _ _ _ _ (c.into_iter-key-iterator.ensures.into_iter_gives ∙ c.iter-key-items.ensures.rest) c.loop-key.yielded_by c.in-None.is c.next.ensures.steps in
    met-all (keys_of c.args.entries.now) (length c.loop-key.yielded) c.loop-key.met c.loop-key.invariant (let long = length-map c.args.entries.now (λ (e : Entry). e.0) in omega (arith, end.1))
