use Rattle.std.proofs.Common.{◌∙◌, ◌<◌, ℕ, length, ap, refl, sym, subst, arith, below_more, below_none}
use Rattle.std.proofs.lemmas.Bool.{false≢true}
use Rattle.std.proofs.lemmas.Option.{slice_get_within}
use Rattle.wit_graph_theory.specs.facts.ListFacts.{contained_at, place_of, same_at}
use Rattle.wit_link_spec.specs.steps.AdditionRefs.{addition_of}
use Rattle.wit_link_spec.specs.Gates.{OptionalSpan}
use Rattle.wit_link_resources.specs.steps.Leading.{LeadsWhereFound}
use Rattle.wit_link_resources.specs.facts.MetTypes.{begins_same, begins_then}
use Rattle.wit_link_resources.proofs.Ranges.{lent_at}
use Rattle.wit_link_resources.proofs.required.check_resources.Goals as goal

pub loop-id-preserved : goal.loop-id-preserved
loop-id-preserved c =
    record {
      fine = below_more _ _ c.loop-id.invariant.fine (λ r at.
          let required = c.args.addition.now.unresolved.now.required_resource_types in
          let there = lent_at required c.as_slice-id-items.result.now c.loop-id.id-index c.as_slice-id-items.ensures c.loop-id-test.true c.loop-id-item.result c.loop-id-item.is in
          let same = same_at required c.loop-id.id-index c.loop-id.id-index c.loop-id-item.result r refl there at in
          subst (λ (x : ℕ × OptionalSpan). LeadsWhereFound (addition_of c.args.addition.now) x.0) same c.in_ok-check_required.ensures.ok);
      met = c.in_ok-check_required.ensures.met;
      begins = begins_then c.args.met.now c.loop-id.met _ c.loop-id.invariant.begins c.in_ok-check_required.ensures.begins;
    }

pub returns-clause-resources : goal.returns-clause-resources
returns-clause-resources c = λ span message is.
    let required = c.args.addition.now.unresolved.now.required_resource_types in
    let at = place_of required (is.t, is.place) is.required in
    let within : at.0 < length required = slice_get_within required at.0 (is.t, is.place) at.1 in
    let below : at.0 < c.loop-id.id-index = let past = c.loop-id-test.false in let long = ap length c.as_slice-id-items.ensures in omega arith in
    false≢true (sym is.no_resource ∙ c.loop-id.invariant.fine at.0 below (is.t, is.place) at.1 is.t' is.active is.found)

pub loop-id-init : goal.loop-id-init
loop-id-init c = record {
  fine = below_none _;
  met = c.requires.met;
  begins = begins_same c.args.met.now;
}

pub check_required-requires-clause-met : goal.check_required-requires-clause-met
check_required-requires-clause-met c = c.loop-id.invariant.met

pub check_required-requires-clause-required : goal.check_required-requires-clause-required
check_required-requires-clause-required c =
    let required = c.args.addition.now.unresolved.now.required_resource_types in
    contained_at required c.loop-id.id-index c.loop-id-item.result (lent_at required c.as_slice-id-items.result.now c.loop-id.id-index c.as_slice-id-items.ensures c.loop-id-test.true c.loop-id-item.result c.loop-id-item.is)
