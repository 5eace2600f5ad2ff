use Rattle.std.proofs.Common.{◌∙◌, sym, arith, ap, length, refl}
use Rattle.wit_graph_theory.specs.facts.ListFacts.{place_of}
use Rattle.wit_link_spec.specs.Gates.{asked_gates}
use Rattle.wit_link_lookup.specs.steps.FeatureSteps.{IsMet}
use Rattle.wit_link_lookup.proofs.AskedGates.{asked_all, asked_up_to, asks_next}
use Rattle.wit_data.specs.facts.EachFacts.{one_more}
use Rattle.wit_link_lookup.proofs.Elements.{element_at}
use Rattle.wit_link_lookup.proofs.checker.Checker.check_gates.Goals as goal

pub check_gate-requires : goal.check_gate-requires
check_gate-requires c =
    let features = c.args.self.now.addition.features.now in
    let among = asks_next features c.args.notes.now c.loop-note.note-index c.note-item.result c.loop-note.invariant.0 (element_at c.args.notes.now c.as_slice-note-items.result.now _ c.loop-note.note-index c.note-item.result c.as_slice-note-items.ensures refl c.loop-note-test.true c.note-item.is) in
    let place = place_of (asked_gates features c.args.notes.now) c.note-item.result among in
    c.requires place.0 c.note-item.result place.1

pub returns-then-is_active-clause-met : goal.returns-then-is_active-clause-met
returns-then-is_active-clause-met c =
    asked_up_to c.args.self.now.addition.features.now (IsMet c.args.self.now) c.args.notes.now c.loop-note.note-index c.note-item.result (element_at c.args.notes.now c.as_slice-note-items.result.now _ c.loop-note.note-index c.note-item.result c.as_slice-note-items.ensures refl c.loop-note-test.true c.note-item.is) (sym c.is_active.ensures ∙ c.if-is_active.true)
    (one_more c.loop-note.invariant.1 c.note-item.result (element_at c.args.notes.now c.as_slice-note-items.result.now _ c.loop-note.note-index c.note-item.result c.as_slice-note-items.ensures refl c.loop-note-test.true c.note-item.is) c.in_ok-check_gate.ensures.met)

pub loop-note-preserved : goal.loop-note-preserved
loop-note-preserved c = (
  one_more c.loop-note.invariant.0 c.note-item.result (element_at c.args.notes.now c.as_slice-note-items.result.now _ c.loop-note.note-index c.note-item.result c.as_slice-note-items.ensures refl c.loop-note-test.true c.note-item.is) (sym c.is_active.ensures ∙ c.if-is_active.false),
  one_more c.loop-note.invariant.1 c.note-item.result (element_at c.args.notes.now c.as_slice-note-items.result.now _ c.loop-note.note-index c.note-item.result c.as_slice-note-items.ensures refl c.loop-note-test.true c.note-item.is) c.in_ok-check_gate.ensures.met,
)

pub returns-clause-met : goal.returns-clause-met
returns-clause-met c = asked_all c.args.self.now.addition.features.now (IsMet c.args.self.now) c.args.notes.now c.loop-note.note-index (omega (arith, ap length c.as_slice-note-items.ensures)) c.loop-note.invariant.1
