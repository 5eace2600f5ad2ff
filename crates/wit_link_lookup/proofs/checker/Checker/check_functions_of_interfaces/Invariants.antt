use Rattle.wit_data.specs.facts.EachFacts.{EachBelow}
use Rattle.wit_link_lookup.specs.steps.FeatureSteps.{MeetsFunctions}
use Rattle.wit_link_lookup.proofs.checker.Checker.check_functions_of_interfaces.Given as goal

-- those of the first ones are met
abbrev pub invariant-loop-index : goal.invariant-loop-index
invariant-loop-index l = EachBelow l.index (MeetsFunctions l.self) l.self.addition.unresolved.now.interfaces
