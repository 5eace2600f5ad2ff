use Rattle.wit_elaboration.specs.Valid.{IsInTable}
use Rattle.wit_data.specs.facts.EachFacts.{EachBelow}
use Rattle.wit_graph_faults.proofs.tables.interfaces_listed.Given as goal

-- it holds of the first ones
abbrev pub invariant-loop-index : goal.invariant-loop-index
invariant-loop-index l = EachBelow l.index (IsInTable l.packages) l.interfaces
