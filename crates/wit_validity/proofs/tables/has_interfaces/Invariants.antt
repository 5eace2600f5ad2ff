use Rattle.std.proofs.Common.{ℕ, List}
use Rattle.wit_elaboration.specs.Valid.{IsInterfaceOf}
use Rattle.wit_data.specs.facts.YieldedFacts.{LeftDecide}
use Rattle.wit_validity.proofs.tables.has_interfaces.Given as goal

-- those that are left decide
abbrev pub invariant-loop-name : goal.invariant-loop-name
invariant-loop-name l = LeftDecide (λ (e : List ℕ × ℕ). IsInterfaceOf l.interfaces l.home e.0 e.1) l.name-iterator l.table
