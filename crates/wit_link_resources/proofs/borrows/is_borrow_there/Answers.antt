use Rattle.std.proofs.Common.{◌≡◌, ◌∙◌, ◌<◌, inl, Bool, true, false, None, Some, List, IsTrue, length, sym, subst, arith}
use Rattle.std.proofs.lemmas.Bool.{false≢true, le-ltb, lt-ltb}
use Rattle.std.proofs.lemmas.Result.{IfOk-weaker}
use Rattle.wit_data.specs.declared.types.TypeDef.{TypeDef}
use Rattle.wit_link_spec.specs.steps.AdditionRefs.{addition_of}
use Rattle.wit_link_spec.specs.Addition.{Addition}
use Rattle.wit_link_spec.specs.facts.FlagFacts.{place-inside, place-is}
use Rattle.wit_link_spec.specs.Lookup.{is_foreign_type}
use Rattle.wit_remap_spec.specs.Borrows.{HoldsBorrow}
use Rattle.wit_link_resources.specs.steps.Borrows.{IsBorrowThere}
use Rattle.wit_link_resources.proofs.MayHold.{borrow_here, found_there, nowhere_none, own_back, there_found}
use Rattle.wit_link_spec.specs.facts.NewFacts.{foreign_type_id-below}
use Rattle.wit_link_resources.proofs.Where.{foreign_back}
use Rattle.wit_link_resources.proofs.borrows.is_borrow_there.Goals as goal
use Rattle.wit_link_spec.specs.steps.Parts.{active_type_id}

pub at-requires : goal.at-requires
at-requires c = place-inside (addition_of c.args.addition.now) c.args.new_ids.now c.requires.new_ids c.args.index c.requires.there

pub holds_borrow-requires-clause-there : goal.holds_borrow-requires-clause-there
holds_borrow-requires-clause-there c =
    let a : Addition = addition_of c.args.addition.now in
    let taken : active_type_id a c.args.index ≡ Some c.in-Some.found = sym (place-is a c.args.new_ids.now c.requires.new_ids c.args.index c.at.result.now c.at.ensures) ∙ c.in-Some.is in
    let below : c.args.index < length a.unresolved.unknown_type_spans = let first = c.if-index-len.true in let len = c.len.ensures in omega arith in
    let back = foreign_back a c.requires.shaped c.args.index c.in-Some.found (lt-ltb c.args.index (length a.unresolved.unknown_type_spans) below) taken in
    subst (λ (types : List TypeDef). c.in-Some.found < length types) (sym c.as_slice.ensures) (foreign_type_id-below a c.requires.valid c.args.index c.in-Some.found back.1)

pub returns-in-Some-clause-holds : goal.returns-in-Some-clause-holds
returns-in-Some-clause-holds c =
    let a : Addition = addition_of c.args.addition.now in
    let taken : active_type_id a c.args.index ≡ Some c.in-Some.found = sym (place-is a c.args.new_ids.now c.requires.new_ids c.args.index c.at.result.now c.at.ensures) ∙ c.in-Some.is in
    let below : c.args.index < length a.unresolved.unknown_type_spans = let first = c.if-index-len.true in let len = c.len.ensures in omega arith in
    let foreign : is_foreign_type a.unresolved c.args.index ≡ true = lt-ltb c.args.index (length a.unresolved.unknown_type_spans) below in
    IfOk-weaker c.holds_borrow.result (λ (b : Bool). (IsTrue b → HoldsBorrow c.as_slice.result.now c.in-Some.found) × (HoldsBorrow c.as_slice.result.now c.in-Some.found → IsTrue b))
    (λ (b : Bool). (IsTrue b → IsBorrowThere a c.args.index) × (IsBorrowThere a c.args.index → IsTrue b))
    (λ b tells. (
      λ h. there_found a c.requires.shaped c.args.index c.in-Some.found foreign taken (subst (λ (types : List TypeDef). HoldsBorrow types c.in-Some.found) c.as_slice.ensures (tells.0 h)),
      λ is. tells.1 (subst (λ (types : List TypeDef). HoldsBorrow types c.in-Some.found) (sym c.as_slice.ensures) (found_there a c.requires.shaped c.args.index c.in-Some.found foreign taken is)),
    )) c.holds_borrow.ensures.holds

pub returns-in-None-clause-holds : goal.returns-in-None-clause-holds
returns-in-None-clause-holds c =
    let a : Addition = addition_of c.args.addition.now in
    let taken : active_type_id a c.args.index ≡ None = sym (place-is a c.args.new_ids.now c.requires.new_ids c.args.index c.at.result.now c.at.ensures) ∙ c.in-None.is in
    let below : c.args.index < length a.unresolved.unknown_type_spans = let first = c.if-index-len.true in let len = c.len.ensures in omega arith in
    let foreign : is_foreign_type a.unresolved c.args.index ≡ true = lt-ltb c.args.index (length a.unresolved.unknown_type_spans) below in
    (λ h. absurd (false≢true h), λ is. absurd (nowhere_none a c.requires.shaped c.args.index foreign taken is))

pub returns-else-index-len-clause-holds : goal.returns-else-index-len-clause-holds
returns-else-index-len-clause-holds c =
    let a : Addition = addition_of c.args.addition.now in
    let its : is_foreign_type a.unresolved c.args.index ≡ false = le-ltb c.args.index (length a.unresolved.unknown_type_spans) (let past = c.if-index-len.false in let len = c.len.ensures in omega arith) in
    let def : TypeDef = c.at-else-index-len.result.now in (
      λ h. inl (borrow_here a.unresolved.types c.args.index def c.at-else-index-len.ensures (c.is_borrow.ensures.0 h)),
      λ is. c.is_borrow.ensures.1 (own_back a c.requires.shaped c.args.index def c.at-else-index-len.ensures its is),
    )
