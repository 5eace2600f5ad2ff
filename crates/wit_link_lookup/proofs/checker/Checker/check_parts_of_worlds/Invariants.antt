use Rattle.wit_data.specs.facts.EachFacts.{EachBelow}
use Rattle.wit_link_lookup.specs.steps.FeatureSteps.{MeetsParts}
use Rattle.wit_link_lookup.proofs.checker.Checker.check_parts_of_worlds.Given as goal

-- those of the first ones are met
abbrev pub invariant-loop-index : goal.invariant-loop-index
invariant-loop-index l = EachBelow l.index (MeetsParts l.self) l.self.addition.unresolved.now.worlds
