use Rattle.std.proofs.Common.{◌≡◌, ◌∙◌, ◌<◌, inr, ℕ, List, ap, length, slice_get, subst, sym}
use Rattle.std.proofs.lemmas.Bool.{false≢true}
use Rattle.wit_digraph.specs.Relation.{IsAcyclic}
use Rattle.wit_data.specs.Kind.{type_references}
use Rattle.wit_data.specs.declared.types.TypeDef.{TypeDef}
use Rattle.wit_remap_spec.specs.Borrows.{borrow_text}
use Rattle.wit_link_spec.specs.facts.RangeFacts.{range-inside, range-read}
use Rattle.wit_merge_spec.specs.Merged.{value_remap}
use Rattle.wit_merge_spec.specs.Matches.{GraphMerge}
use Rattle.wit_merge_laws.specs.facts.NoCycles.{joined_types_acyclic}
use Rattle.wit_merge.specs.steps.MergeSteps.{merging_of}
use Rattle.wit_merge.proofs.Returning.{returned_there, returns_borrow, returns_free, value_there}
use Rattle.wit_merge.proofs.results.check_result.Goals as goal
use Rattle.wit_remap_spec.specs.steps.Parts.{value_id}

pub at-place-requires : goal.at-place-requires
at-place-requires c =
    let m : GraphMerge = merging_of c.args.plan.now in
    let within = returned_there m c.requires.ready.valid c.requires.ready.valid_other c.args.function.now c.requires.moved c.result_type.result c.in-Some.id c.result_type.ensures c.in-Some.is in
    subst (λ (k : ℕ). k < length c.args.plan.now.values.now) (sym c.index.ensures) (range-inside (value_id (value_remap m)) (length m.other.types) c.in-Some.id c.args.plan.now.values.now c.requires.ready.values within)

pub holds_borrow-requires-clause-acyclic : goal.holds_borrow-requires-clause-acyclic
holds_borrow-requires-clause-acyclic c =
    let m : GraphMerge = merging_of c.args.plan.now in
    subst (λ (types : List TypeDef). IsAcyclic (type_references types)) (sym c.requires.types) (joined_types_acyclic m c.requires.ready.valid c.requires.ready.valid_other c.requires.ready.one)

pub holds_borrow-requires-clause-there : goal.holds_borrow-requires-clause-there
holds_borrow-requires-clause-there c =
    let m : GraphMerge = merging_of c.args.plan.now in
    let within = returned_there m c.requires.ready.valid c.requires.ready.valid_other c.args.function.now c.requires.moved c.result_type.result c.in-Some.id c.result_type.ensures c.in-Some.is in
    let place : c.at-place.result.now ≡ value_id (value_remap m) c.in-Some.id =
    range-read (value_id (value_remap m)) (length m.other.types) c.in-Some.id c.args.plan.now.values.now c.at-place.result.now c.requires.ready.values (ap (slice_get c.args.plan.now.values.now) (sym c.index.ensures) ∙ c.at-place.ensures) in
    subst (λ (k : ℕ). k < length c.args.types.now) (sym place)
    (subst (λ (types : List TypeDef). value_id (value_remap m) c.in-Some.id < length types) (sym c.requires.types) (value_there m c.requires.ready.valid c.requires.ready.valid_other c.in-Some.id within))

pub returns-then-branch-clause-cause : goal.returns-then-branch-clause-cause
returns-then-branch-clause-cause c =
    let m : GraphMerge = merging_of c.args.plan.now in
    let place : c.at-place.result.now ≡ value_id (value_remap m) c.in-Some.id =
    range-read (value_id (value_remap m)) (length m.other.types) c.in-Some.id c.args.plan.now.values.now c.at-place.result.now c.requires.ready.values (ap (slice_get c.args.plan.now.values.now) (sym c.index.ensures) ∙ c.at-place.ensures) in
    inr (record {
      message = borrow_text c.args.function.now.name;
      is = c.in_ok-borrow_in_result.ensures;
      returns = returns_borrow m c.args.function.now c.result_type.result c.in-Some.id c.at-place.result.now c.args.types.now c.result_type.ensures c.in-Some.is place c.requires.types c.requires.moved
          (c.in_ok-holds_borrow.ensures.holds.0 c.if-branch.true);
    })

pub returns-clause-none : goal.returns-clause-none
returns-clause-none c =
    let m : GraphMerge = merging_of c.args.plan.now in
    let place : c.at-place.result.now ≡ value_id (value_remap m) c.in-Some.id =
    range-read (value_id (value_remap m)) (length m.other.types) c.in-Some.id c.args.plan.now.values.now c.at-place.result.now c.requires.ready.values (ap (slice_get c.args.plan.now.values.now) (sym c.index.ensures) ∙ c.at-place.ensures) in
    returns_free m c.args.function.now c.result_type.result c.in-Some.id c.at-place.result.now c.args.types.now c.result_type.ensures c.in-Some.is place c.requires.types
    (λ holds. false≢true (sym c.if-branch.false ∙ c.in_ok-holds_borrow.ensures.holds.1 holds))
