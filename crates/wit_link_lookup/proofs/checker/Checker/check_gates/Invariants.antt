use Rattle.wit_data.specs.facts.EachFacts.{EachBelow}
use Rattle.wit_link_lookup.specs.steps.FeatureSteps.{IsMet}
use Rattle.wit_link_lookup.proofs.AskedGates.{NoneActive}
use Rattle.wit_link_lookup.proofs.checker.Checker.check_gates.Given as goal

-- the first ones let nothing be active, and are met
abbrev pub invariant-loop-note : goal.invariant-loop-note
invariant-loop-note l = NoneActive l.self.addition.features.now l.note-index l.notes × EachBelow l.note-index (λ _. IsMet l.self) l.notes
