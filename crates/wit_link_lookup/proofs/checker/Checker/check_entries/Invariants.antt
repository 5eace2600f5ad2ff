use Rattle.std.proofs.Common.{length}
use Rattle.wit_data.specs.facts.EachFacts.{EachBelow}
use Rattle.wit_data.specs.Entries.{Entry}
use Rattle.wit_link_lookup.specs.steps.FeatureSteps.{MeetsItem}
use Rattle.wit_link_lookup.proofs.checker.Checker.check_entries.Given as goal

-- the first ones are met
abbrev pub invariant-loop-item : goal.invariant-loop-item
invariant-loop-item l = EachBelow (length l.yielded) (λ _ (e : Entry). MeetsItem l.self e.1) l.entries
