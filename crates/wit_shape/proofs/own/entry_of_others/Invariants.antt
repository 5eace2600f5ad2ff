use Rattle.wit_data.specs.facts.EachFacts.{EachBelow}
use Rattle.wit_data.specs.Entries.{ItemUsesOwn}
use Rattle.wit_data.specs.Entries.{Entry}
use Rattle.wit_shape.proofs.own.entry_of_others.Given as goal

-- it holds of the first ones
abbrev pub invariant-loop-index : goal.invariant-loop-index
invariant-loop-index l = EachBelow l.index (λ _ (e : Entry). ItemUsesOwn l.types l.owner e.1) l.entries
