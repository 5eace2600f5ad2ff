use Rattle.wit_data.specs.Entries.{Entry}
use Rattle.wit_elaboration.specs.Valid.{IsOfPackage}
use Rattle.wit_data.specs.facts.EachFacts.{EachBelow}
use Rattle.wit_graph_faults.proofs.worlds.entry_of_another.Given as goal

-- it holds of the first ones
abbrev pub invariant-loop-index : goal.invariant-loop-index
invariant-loop-index l = EachBelow l.index (λ _ (e : Entry). IsOfPackage l.interfaces l.home e.1) l.entries
