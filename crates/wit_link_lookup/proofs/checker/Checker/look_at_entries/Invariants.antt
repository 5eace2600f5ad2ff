use Rattle.std.proofs.Common.{length}
use Rattle.wit_data.specs.facts.EachFacts.{EachBelow}
use Rattle.wit_data.specs.Entries.{Entry}
use Rattle.wit_link_lookup.specs.steps.FeatureSteps.{ItemStays}
use Rattle.wit_link_lookup.proofs.checker.Checker.look_at_entries.Given as goal

-- what the first ones need isn't left out
abbrev pub invariant-loop-item : goal.invariant-loop-item
invariant-loop-item l = EachBelow (length l.yielded) (λ _ (e : Entry). ItemStays l.self e.1) l.entries
