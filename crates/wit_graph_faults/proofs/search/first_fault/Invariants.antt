use Rattle.std.proofs.Common.{◌<◌}
use Rattle.wit_graph_faults.specs.Faults.{IsKept}
use Rattle.wit_graph_faults.proofs.Clauses.{number}
use Rattle.wit_graph_faults.specs.declared.clause.GraphClause.{GraphClause}
use Rattle.wit_graph_faults.proofs.search.first_fault.Given as goal

-- the first ones hold
abbrev pub invariant-loop-clause : goal.invariant-loop-clause
invariant-loop-clause l = (other : GraphClause) → number other < l.clause-index → IsKept l.graph other
