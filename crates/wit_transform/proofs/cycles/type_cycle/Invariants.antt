use Rattle.wit_transform.proofs.OnCycles.{HaveNoName}
use Rattle.wit_transform.proofs.cycles.type_cycle.Given as goal

-- the first ones have no name
abbrev pub invariant-loop-id : goal.invariant-loop-id
invariant-loop-id l = HaveNoName l.types l.ids l.id-index
