use Rattle.std.proofs.Common.{◌≡◌, ℕ, ◌+◌, ◌<◌, List, length, take, Some, true, false, slice_get, refl, subst, sym, ◌∙◌, arith, rules}
use Rattle.std.specs.Prelude.{is_some}
use Rattle.std.proofs.lemmas.Option.{slice_get_read, slice_get_within}
use Rattle.std.proofs.lemmas.Grind.{common_steps}
use Rattle.wit_values.specs.facts.Lists.{take-next_at}
use Rattle.wit_data.specs.facts.EachFacts.{SomeAt-is}
use Rattle.wit_data.specs.Ownership.{NamesThroughUnnamed}
use Rattle.wit_data.specs.Kind.{referred}
use Rattle.wit_shape.specs.steps.NamedOwners.{IsNamedOwners, IsTold, joined}
use Rattle.wit_shape.specs.declared.named_owners.NamedOwners.{NamedOwners}
use Rattle.wit_data.specs.declared.types.TypeDef.{TypeDef}
use Rattle.wit_shape.proofs.Telling.{ShowsAny, tells_more, tells_named, tells_none, tells_unnamed}
use Rattle.wit_shape.proofs.named_owners.shown_by.Goals as goal

some_same : {X : Type 0} {x y : X} → Some x ≡ Some y → x ≡ y
some_same same = cc

pub returns-then-is_some : goal.returns-then-is_some
returns-then-is_some c =
    let def = c.index-types-index.result in
    let named : is_some def.name ≡ true = search rules in
    tells_named c.args.types.now c.args.index def (slice_get_read c.args.types.now _ c.args.index def refl c.requires.index c.index-types-index.is) named

pub loop-id-init : goal.loop-id-init
loop-id-init c = tells_none c.args.types.now

id_told : (types : List TypeDef) (shown : List NamedOwners) (index : ℕ) (def : TypeDef) (ids : List ℕ) (place id : ℕ) → IsTold types shown index → slice_get types index ≡ Some def → ids ≡ referred def.kind → slice_get ids place ≡ Some id
    → (told : NamedOwners) × (slice_get shown id ≡ Some told) × IsNamedOwners (NamesThroughUnnamed types id) told
id_told types shown index def ids place id known def_at same at =
    SomeAt-is (IsNamedOwners (NamesThroughUnnamed types id)) shown id (known def def_at place id (subst (λ (l : List ℕ). slice_get l place ≡ Some id) same at))

pub at-requires : goal.at-requires
at-requires c =
    let types = c.args.types.now in
    let def = c.index-types-index.result in
    let ids = c.as_slice-id-items.result.now in
    let id = c.id-item.result in
    let told = id_told types c.args.shown.now c.args.index def ids c.loop-id.id-index id c.requires.known
    (slice_get_read types _ c.args.index def refl c.requires.index c.index-types-index.is) (c.as_slice-id-items.ensures ∙ c.in_ok-ids.ensures)
    (slice_get_read ids _ c.loop-id.id-index id refl c.loop-id-test.true c.id-item.is) in
    let below : id < length c.args.shown.now = slice_get_within c.args.shown.now id told.0 told.1 in
    omega arith

pub loop-id-preserved : goal.loop-id-preserved
loop-id-preserved c =
    let types = c.args.types.now in
    let ids = c.as_slice-id-items.result.now in
    let id = c.id-item.result in
    let told = c.at.result.now in
    let id_at : slice_get ids c.loop-id.id-index ≡ Some id = slice_get_read ids _ c.loop-id.id-index id refl c.loop-id-test.true c.id-item.is in
    let told_at : slice_get c.args.shown.now id ≡ Some told =
    subst (λ (i : ℕ). slice_get c.args.shown.now i ≡ Some told) c.index.ensures c.at.ensures in
    let def = c.index-types-index.result in
    let known = id_told types c.args.shown.now c.args.index def ids c.loop-id.id-index id c.requires.known
    (slice_get_read types _ c.args.index def refl c.requires.index c.index-types-index.is) (c.as_slice-id-items.ensures ∙ c.in_ok-ids.ensures) id_at in
    let same : known.0 ≡ told = some_same (sym known.1 ∙ told_at) in
    let tells : IsNamedOwners (NamesThroughUnnamed types id) told = subst (λ (s : NamedOwners). IsNamedOwners (NamesThroughUnnamed types id) s) same known.2 in
    let joins = tells_more types (take c.loop-id.id-index ids) id c.loop-id.told told c.loop-id.invariant tells in
    subst (λ (s : NamedOwners). IsNamedOwners (ShowsAny types (take (c.loop-id.id-index + 1) ids)) s) (sym c.join-told.ensures)
    (subst (λ (l : List ℕ). IsNamedOwners (ShowsAny types l) (joined c.loop-id.told told)) (sym (take-next_at ids c.loop-id.id-index id id_at)) joins)

pub returns : goal.returns
returns c =
    let types = c.args.types.now in
    let def = c.index-types-index.result in
    let ids = c.as_slice-id-items.result.now in
    let same : ids ≡ referred def.kind = c.as_slice-id-items.ensures ∙ c.in_ok-ids.ensures in
    let unnamed : is_some def.name ≡ false = search rules in
    let at = slice_get_read types _ c.args.index def refl c.requires.index c.index-types-index.is in
    let all : take c.loop-id.id-index ids ≡ ids = grind (arith, common_steps) in
    tells_unnamed types c.args.index def c.loop-id.told at unnamed
    (subst (λ (l : List ℕ). IsNamedOwners (ShowsAny types l) c.loop-id.told) (all ∙ same) c.loop-id.invariant)
