use Rattle.std.proofs.Common.{◌≡◌, ◌∙◌, ◌<◌, true, false, ℕ, None, Some, List, length, slice_get, ap, sym, subst, inr}
use Rattle.wit_data.specs.declared.types.TypeDef.{TypeDef}
use Rattle.wit_link_spec.specs.steps.AdditionRefs.{addition_of}
use Rattle.wit_link_spec.specs.Addition.{Addition}
use Rattle.wit_link_spec.specs.facts.FlagFacts.{place-inside, place-is}
use Rattle.wit_link_spec.specs.facts.NewFacts.{foreign_type_id-below}
use Rattle.wit_remap_spec.specs.Resources.{leads_to_resource}
use Rattle.wit_link_resources.specs.steps.Leading.{AreRight}
use Rattle.wit_link_resources.proofs.Tells.{resource_cause}
use Rattle.wit_link_resources.proofs.Where.{foreign_back, found_on, required_is_foreign}
use Rattle.wit_link_resources.proofs.required.check_required.Goals as goal
use Rattle.wit_link_spec.specs.steps.Parts.{active_type_id}

pub at-requires : goal.at-requires
at-requires c =
    let a : Addition = addition_of c.args.addition.now in
    let there = required_is_foreign a c.requires.shaped c.args.id c.args.span c.requires.required in
    subst (λ (k : ℕ). k < length c.args.new_ids.now.types) (sym c.index.ensures) (place-inside a c.args.new_ids.now c.requires.new_ids c.args.id there.0)

pub returns-in_default-clause-ok : goal.returns-in_default-clause-ok
returns-in_default-clause-ok c = λ t' active found.
    let a : Addition = addition_of c.args.addition.now in
    let there = required_is_foreign a c.requires.shaped c.args.id c.args.span c.requires.required in
    let taken : active_type_id a c.args.id ≡ None =
    sym (place-is a c.args.new_ids.now c.requires.new_ids c.args.id c.at.result.now (subst (λ (k : ℕ). slice_get c.args.new_ids.now.types k ≡ Some c.at.result.now) c.index.ensures c.at.ensures)) ∙ c.in_default.is in
    let goes : active_type_id a c.args.id ≡ Some t' = found_on a c.requires.shaped c.args.id t' active found in
    cc

pub leads_to_resource-requires-clause-there : goal.leads_to_resource-requires-clause-there
leads_to_resource-requires-clause-there c =
    let a : Addition = addition_of c.args.addition.now in
    let there = required_is_foreign a c.requires.shaped c.args.id c.args.span c.requires.required in
    let taken : active_type_id a c.args.id ≡ Some c.in-Some.found =
    sym (place-is a c.args.new_ids.now c.requires.new_ids c.args.id c.at.result.now (subst (λ (k : ℕ). slice_get c.args.new_ids.now.types k ≡ Some c.at.result.now) c.index.ensures c.at.ensures)) ∙ c.in-Some.is in
    let back = foreign_back a c.requires.shaped c.args.id c.in-Some.found there.1 taken in
    subst (λ (types : List TypeDef). c.in-Some.found < length types) (sym c.as_slice.ensures) (foreign_type_id-below a c.requires.valid c.args.id c.in-Some.found back.1)

pub returns-then-leads-clause-ok : goal.returns-then-leads-clause-ok
returns-then-leads-clause-ok c = λ t' active found.
    let a : Addition = addition_of c.args.addition.now in
    let there = required_is_foreign a c.requires.shaped c.args.id c.args.span c.requires.required in
    let taken : active_type_id a c.args.id ≡ Some c.in-Some.found =
    sym (place-is a c.args.new_ids.now c.requires.new_ids c.args.id c.at.result.now (subst (λ (k : ℕ). slice_get c.args.new_ids.now.types k ≡ Some c.at.result.now) c.index.ensures c.at.ensures)) ∙ c.in-Some.is in
    let goes : active_type_id a c.args.id ≡ Some t' = found_on a c.requires.shaped c.args.id t' active found in
    let same : c.in-Some.found ≡ t' = cc in
    subst (λ (k : ℕ). leads_to_resource a.graph.types k ≡ true) same
    (ap (λ (types : List TypeDef). leads_to_resource types c.in-Some.found) (sym c.as_slice.ensures) ∙ (sym c.in_ok-leads.ensures.leads ∙ c.if-leads.true))

pub returns-clause-cause : goal.returns-clause-cause
returns-clause-cause c =
    let a : Addition = addition_of c.args.addition.now in
    let there = required_is_foreign a c.requires.shaped c.args.id c.args.span c.requires.required in
    let taken : active_type_id a c.args.id ≡ Some c.in-Some.found =
    sym (place-is a c.args.new_ids.now c.requires.new_ids c.args.id c.at.result.now (subst (λ (k : ℕ). slice_get c.args.new_ids.now.types k ≡ Some c.at.result.now) c.index.ensures c.at.ensures)) ∙ c.in-Some.is in
    let back = foreign_back a c.requires.shaped c.args.id c.in-Some.found there.1 taken in
    let none : leads_to_resource a.graph.types c.in-Some.found ≡ false =
    ap (λ (types : List TypeDef). leads_to_resource types c.in-Some.found) (sym c.as_slice.ensures) ∙ (sym c.in_ok-leads.ensures.leads ∙ c.if-leads.false) in
    inr (resource_cause a c.args.id c.in-Some.found c.args.span c.in_ok-not_a_resource.field-0 c.requires.required back.0 back.1 none c.in_ok-not_a_resource.ensures)

pub leads_to_resource-requires-clause-met : goal.leads_to_resource-requires-clause-met
leads_to_resource-requires-clause-met c = subst (λ (types : List TypeDef). AreRight types c.args.met.now) (sym c.as_slice.ensures) c.requires.met

pub returns-then-leads-clause-met : goal.returns-then-leads-clause-met
returns-then-leads-clause-met c = subst (λ (types : List TypeDef). AreRight types c.leads_to_resource.new.met) c.as_slice.ensures c.leads_to_resource.ensures.met

pub returns-in_err-leads-clause-met : goal.returns-in_err-leads-clause-met
returns-in_err-leads-clause-met c = subst (λ (types : List TypeDef). AreRight types c.leads_to_resource.new.met) c.as_slice.ensures c.leads_to_resource.ensures.met

pub returns-in_err-not_a_resource-clause-met : goal.returns-in_err-not_a_resource-clause-met
returns-in_err-not_a_resource-clause-met c = subst (λ (types : List TypeDef). AreRight types c.leads_to_resource.new.met) c.as_slice.ensures c.leads_to_resource.ensures.met

pub returns-clause-met : goal.returns-clause-met
returns-clause-met c = subst (λ (types : List TypeDef). AreRight types c.leads_to_resource.new.met) c.as_slice.ensures c.leads_to_resource.ensures.met
