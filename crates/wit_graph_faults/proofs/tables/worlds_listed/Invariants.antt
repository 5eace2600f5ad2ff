use Rattle.wit_elaboration.specs.Valid.{IsWorldInTable}
use Rattle.wit_data.specs.facts.EachFacts.{EachBelow}
use Rattle.wit_graph_faults.proofs.tables.worlds_listed.Given as goal

-- it holds of the first ones
abbrev pub invariant-loop-index : goal.invariant-loop-index
invariant-loop-index l = EachBelow l.index (IsWorldInTable l.packages) l.worlds
