use Rattle.std.proofs.Common.{◌<◌}
use Rattle.wit_shape.specs.Faults.{Holds}
use Rattle.wit_shape.proofs.Clauses.{number}
use Rattle.wit_shape.specs.declared.clause.ShapeClause.{ShapeClause}
use Rattle.wit_shape.proofs.search.first_fault.Given as goal

-- the first ones hold
abbrev pub invariant-loop-clause : goal.invariant-loop-clause
invariant-loop-clause l = (other : ShapeClause) → number other < l.clause-index → Holds l.unresolved other
