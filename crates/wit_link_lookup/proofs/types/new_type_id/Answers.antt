use Rattle.std.proofs.Common.{◌≡◌, ◌∙◌, Option, ℕ, ap, arith, length, subst, sym, true}
use Rattle.std.proofs.lemmas.Bool.{false≢true, lt-ltb, ltb-true}
use Rattle.std.specs.Prelude.{IfOk}
use Rattle.wit_link_spec.specs.steps.AdditionRefs.{addition_of}
use Rattle.wit_link_spec.specs.facts.FlagFacts.{type-flag, type-inside}
use Rattle.wit_link_spec.specs.Gates.{type_is_active}
use Rattle.wit_link_spec.specs.Lookup.{is_foreign_type}
use Rattle.wit_link_lookup.proofs.Remapped.{foreign_type_remapped, own_type_step}
use Rattle.wit_link_lookup.proofs.types.new_type_id.Goals as goal
use Rattle.wit_link_lookup.proofs.types.new_type_id.Goals.{else-active-via-else-active, else-active-via-then-active+else-t-len}

pub at-active-requires : goal.at-active-requires
at-active-requires c = type-inside (addition_of c.args.addition.now) c.args.activity.now c.requires.activity c.args.t c.requires.inside

pub foreign_type-requires-clause-active : goal.foreign_type-requires-clause-active
foreign_type-requires-clause-active c = sym (type-flag (addition_of c.args.addition.now) c.args.activity.now c.requires.activity c.args.t c.at-active.result.now c.at-active.ensures) ∙ c.if-active.true

pub returns-then-t-len-clause-id : goal.returns-then-t-len-clause-id
returns-then-t-len-clause-id c =
    let a = addition_of c.args.addition.now in
    subst (λ (x : Option ℕ). IfOk c.foreign_type.result (λ id. id ≡ x))
    (foreign_type_remapped a c.args.t (sym (type-flag a c.args.activity.now c.requires.activity c.args.t c.at-active.result.now c.at-active.ensures) ∙ c.if-active.true)
    (lt-ltb c.args.t (length c.args.addition.now.unresolved.now.unknown_type_spans) (omega (arith, c.if-t-len.true, c.len.ensures)))) c.foreign_type.ensures.id

pub returns : goal.returns
returns c =
    let a = addition_of c.args.addition.now in
    let flag = type-flag a c.args.activity.now c.requires.activity c.args.t c.at-active.result.now c.at-active.ensures in
    let own : type_is_active c.args.addition.now.features.now c.args.addition.now.unresolved.now.types c.args.t ≡ true → is_foreign_type c.args.addition.now.unresolved.now c.args.t ≡ true → ⊥ =
    λ active foreign. elim c.else-active.branch [
      | else-active-via-then-active+else-t-len w ↦ let below = ltb-true c.args.t (length c.args.addition.now.unresolved.now.unknown_type_spans) foreign in omega (arith, w.if-t-len.false, w.len.ensures)
      | else-active-via-else-active w ↦ false≢true (sym w.if-active.false ∙ (flag ∙ active))
    ] in
    let step = own_type_step a c.args.t c.at-active.result.now c.args.next.now c.assign_id.new.next c.in_ok-assign_id.field-0 flag own c.requires.next c.in_ok-assign_id.ensures.id c.in_ok-assign_id.ensures.next in
    record {
      id = step.0;
      next = step.1;
      there = λ span message lacks same.
          own (ap (type_is_active c.args.addition.now.features.now c.args.addition.now.unresolved.now.types) (sym same) ∙ lacks.active) (ap (is_foreign_type c.args.addition.now.unresolved.now) (sym same) ∙ lacks.foreign);
      cause = tt;
    }
