use Rattle.std.proofs.Common.{length}
use Rattle.wit_data.specs.facts.EachFacts.{EachBelow}
use Rattle.wit_link_lookup.specs.steps.FeatureSteps.{MeetsForeign}
use Rattle.wit_link_lookup.proofs.checker.Checker.check_items.Given as goal

-- those of the first ones are met
abbrev pub invariant-loop-item : goal.invariant-loop-item
invariant-loop-item l = EachBelow (length l.yielded) (λ _. MeetsForeign l.self) l.items
