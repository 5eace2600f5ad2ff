use Rattle.std.proofs.Common.{◌<◌, ◌≤◌, ◌-◌, length}
use Rattle.wit_digraph.specs.Relation.{IsAcyclic}
use Rattle.wit_shape.specs.Faults.{among_first}
use Rattle.wit_shape.proofs.uses.first_on_cycle.Given as goal

-- the first ones are acyclic up to the lower bound and not up to the upper one
abbrev pub invariant-loop-acyclic : goal.invariant-loop-acyclic
invariant-loop-acyclic l = record {
  low : l.acyclic < l.cyclic;
  high : l.cyclic ≤ length l.uses;
  before : IsAcyclic (among_first l.uses l.acyclic);
  closes : IsAcyclic (among_first l.uses l.cyclic) → ⊥;
}

abbrev pub decreases-loop-acyclic : goal.decreases-loop-acyclic
decreases-loop-acyclic l = l.cyclic - l.acyclic
