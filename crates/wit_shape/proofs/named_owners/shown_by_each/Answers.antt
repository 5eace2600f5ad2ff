use Rattle.std.proofs.Common.{◌≡◌, ◌∙◌, ℕ, ◌+◌, ◌<◌, ◌∷◌, [], List, All, length, take, get_or, slice_get, slice_set, Some, inl, inr, subst, sym, ap, arith, rules}
use Rattle.std.specs.Prelude.{Contains}
use Rattle.std.proofs.Math.ListN.{length-set}
use Rattle.std.proofs.lemmas.List.Elements.{Contains-append_cases, Contains-get_or}
use Rattle.std.proofs.lemmas.Option.{slice_get_within, slice_get-get_or}
use Rattle.std.proofs.lemmas.Grind.{common_steps}
use Rattle.wit_values.specs.facts.Lists.{kept-cases, slice_get-set, take-next_at}
use Rattle.wit_digraph.specs.facts.MemberFacts.{Contains-nil, Contains-cons_cases}
use Rattle.wit_digraph.specs.facts.PostOrderFacts.{UsesFirst-at}
use Rattle.wit_digraph.specs.steps.PostOrder.{Listed, UsesFirst}
use Rattle.wit_data.specs.Each.{SomeAt}
use Rattle.wit_data.specs.facts.EachFacts.{SomeAt-is, SomeAt-of}
use Rattle.wit_data.specs.Ownership.{NamesThroughUnnamed}
use Rattle.wit_data.specs.Kind.{referred, type_references}
use Rattle.wit_data.specs.facts.ReferenceFacts.{references_at}
use Rattle.wit_shape.specs.steps.NamedOwners.{AreNamedOwners, IsNamedOwners, IsTold}
use Rattle.wit_shape.specs.declared.named_owners.NamedOwners.{NamedOwners}
use Rattle.wit_data.specs.declared.types.TypeDef.{TypeDef}
use Rattle.wit_shape.proofs.named_owners.shown_by_each.Goals as goal

contained : (xs : List ℕ) (k x : ℕ) → slice_get xs k ≡ Some x → Contains xs x
contained xs k x on =
    let within : k < length xs = slice_get_within xs k x on in
    let read : Some (get_or xs k 0) ≡ Some x = sym (slice_get-get_or xs k 0 within) ∙ on in
    let same : get_or xs k 0 ≡ x = cc in
    subst (λ (y : ℕ). Contains xs y) same (Contains-get_or xs k 0 within)

-- what is told of those before it in the order is told of those that a type refers to
told_before : (types : List TypeDef) (shown : List NamedOwners) (order : List ℕ) (place index : ℕ) → UsesFirst (type_references types) [] order → slice_get order place ≡ Some index
    → ((id : ℕ) → Contains (take place order) id → SomeAt shown id (IsNamedOwners (NamesThroughUnnamed types id))) → IsTold types shown index
told_before types shown order place index first at known def def_at k id on =
    known id (UsesFirst-at (type_references types) order [] place index id first at
    (subst (λ (row : List ℕ). Contains row id) (sym (references_at types index def def_at)) (contained (referred def.kind) k id on)))

-- one more is told
told_after : (types : List TypeDef) (shown : List NamedOwners) (order : List ℕ) (place index : ℕ) (told : NamedOwners) → slice_get order place ≡ Some index → index < length shown → IsNamedOwners (NamesThroughUnnamed types index) told
    → ((id : ℕ) → Contains (take place order) id → SomeAt shown id (IsNamedOwners (NamesThroughUnnamed types id)))
    → (id : ℕ) → Contains (take (place + 1) order) id → SomeAt (slice_set shown index told) id (IsNamedOwners (NamesThroughUnnamed types id))
told_after types shown order place index told at within tells known id has =
    elim (Contains-append_cases (take place order) (index ∷ []) id (subst (λ (l : List ℕ). Contains l id) (take-next_at order place index at) has)) [
      | inl before ↦ kept id (known id before)
      | inr last ↦ elim (Contains-cons_cases index id [] last) [ inl same ↦ subst (λ (i : ℕ). SomeAt (slice_set shown index told) i (IsNamedOwners (NamesThroughUnnamed types i))) same new | inr none ↦ absurd (Contains-nil none) ]
    ]
  where
    new : SomeAt (slice_set shown index told) index (IsNamedOwners (NamesThroughUnnamed types index))
    new = SomeAt-of (IsNamedOwners (NamesThroughUnnamed types index)) (slice_set shown index told) index told (slice_get-set shown index _ told (slice_get-get_or shown index told within)) tells

    kept : (id : ℕ) → SomeAt shown id (IsNamedOwners (NamesThroughUnnamed types id)) → SomeAt (slice_set shown index told) id (IsNamedOwners (NamesThroughUnnamed types id))
    kept id old =
        let was = SomeAt-is (IsNamedOwners (NamesThroughUnnamed types id)) shown id old in
        elim (kept-cases shown index told id was.0 was.1) [
          | inl same ↦ subst (λ (i : ℕ). SomeAt (slice_set shown index told) i (IsNamedOwners (NamesThroughUnnamed types i))) (sym same) new
          | inr stays ↦ SomeAt-of (IsNamedOwners (NamesThroughUnnamed types id)) (slice_set shown index told) id was.0 stays was.2
        ]

-- all are told
all_told : (types : List TypeDef) (shown : List NamedOwners) → length shown ≡ length types → ((id : ℕ) → id < length types → SomeAt shown id (IsNamedOwners (NamesThroughUnnamed types id))) → AreNamedOwners types shown
all_told types shown long known = record {
  long = long;
  each = λ id told at.
      let inside : id < length shown = slice_get_within shown id told at in
      let is = SomeAt-is (IsNamedOwners (NamesThroughUnnamed types id)) shown id (known id (omega (arith, inside, long))) in
      let both : Some is.0 ≡ Some told = sym is.1 ∙ at in
      let same : is.0 ≡ told = cc in
      subst (λ (s : NamedOwners). IsNamedOwners (NamesThroughUnnamed types id) s) same is.2;
}

-- an order of all types, each after those that it refers to
record IsOrder (types : List TypeDef) (order : List ℕ) : Type 0 where
  in_range : All (λ i. i < length types) order
  uses_first : UsesFirst (type_references types) [] order
  whole : (i : ℕ) → i < length types → Contains order i

order_from : (types : List TypeDef) (listed : Listed) (items : List ℕ) → listed.nodes ≡ length types → ((i : ℕ) → i < length types → Contains listed.order i)
    → UsesFirst (type_references types) [] listed.order → All (λ i. i < listed.nodes) listed.order → items ≡ listed.order → IsOrder types items
order_from types listed items many whole first in_range same = record {
  in_range = subst (λ (order : List ℕ). All (λ i. i < length types) order) (sym same) (λ k d within. let inside = in_range k d within in omega (arith, inside, many));
  uses_first = subst (λ (order : List ℕ). UsesFirst (type_references types) [] order) (sym same) first;
  whole = λ i within. subst (λ (order : List ℕ). Contains order i) (sym same) (whole i within);
}

pub loop-index-init : goal.loop-index-init
loop-index-init c = record { long = search rules; known = λ id has. absurd (Contains-nil has) }

pub shown_by-requires : goal.shown_by-requires
shown_by-requires c =
    let types = c.args.types.now in
    let items = c.order-index-items.result.now in
    let place = c.loop-index.index-index in
    let order = order_from types c.in_ok-listing.listing items c.in_ok-listing.ensures.nodes c.in_ok-listing.ensures.all
    c.in_ok-listing.ensures.uses_first c.order-index-items.ensures.in_range c.order-index-items.ensures.order in
    record {
      index = order.in_range place 0 c.loop-index-test.true;
      known = told_before types c.loop-index.shown items place (get_or items place 0) order.uses_first (slice_get-get_or items place 0 c.loop-index-test.true) c.loop-index.invariant.known;
    }

pub set-requires : goal.set-requires
set-requires c =
    let types = c.args.types.now in
    let items = c.order-index-items.result.now in
    let order = order_from types c.in_ok-listing.listing items c.in_ok-listing.ensures.nodes c.in_ok-listing.ensures.all
    c.in_ok-listing.ensures.uses_first c.order-index-items.ensures.in_range c.order-index-items.ensures.order in
    let inside = order.in_range c.loop-index.index-index 0 c.loop-index-test.true in
    omega (arith, inside, c.loop-index.invariant.long)

pub loop-index-preserved : goal.loop-index-preserved
loop-index-preserved c =
    let types = c.args.types.now in
    let items = c.order-index-items.result.now in
    let place = c.loop-index.index-index in
    let index : ℕ = get_or items place 0 in
    let order = order_from types c.in_ok-listing.listing items c.in_ok-listing.ensures.nodes c.in_ok-listing.ensures.all
    c.in_ok-listing.ensures.uses_first c.order-index-items.ensures.in_range c.order-index-items.ensures.order in
    let inside : index < length types = order.in_range place 0 c.loop-index-test.true in
    let long : length c.loop-index.shown ≡ length types = c.loop-index.invariant.long in
    record {
      long = ap length c.set.ensures ∙ length-set c.loop-index.shown index c.in_ok-told.told ∙ long;
      known = λ id has. subst (λ (s : List NamedOwners). SomeAt s id (IsNamedOwners (NamesThroughUnnamed types id))) (sym c.set.ensures)
          (told_after types c.loop-index.shown items place index c.in_ok-told.told (slice_get-get_or items place 0 c.loop-index-test.true) (omega (arith, inside, long)) c.in_ok-told.ensures
          c.loop-index.invariant.known id has);
    }

pub returns : goal.returns
returns c =
    let types = c.args.types.now in
    let items = c.order-index-items.result.now in
    let order = order_from types c.in_ok-listing.listing items c.in_ok-listing.ensures.nodes c.in_ok-listing.ensures.all
    c.in_ok-listing.ensures.uses_first c.order-index-items.ensures.in_range c.order-index-items.ensures.order in
    let all : take c.loop-index.index-index items ≡ items = grind (arith, common_steps) in
    all_told types c.loop-index.shown c.loop-index.invariant.long (λ id within. c.loop-index.invariant.known id (subst (λ (l : List ℕ). Contains l id) (sym all) (order.whole id within)))
