use Rattle.std.proofs.Common.{ℕ, List}
use Rattle.wit_elaboration.specs.Valid.{IsWorldOf}
use Rattle.wit_data.specs.facts.YieldedFacts.{LeftDecide}
use Rattle.wit_validity.proofs.tables.has_worlds.Given as goal

-- those that are left decide
abbrev pub invariant-loop-name : goal.invariant-loop-name
invariant-loop-name l = LeftDecide (λ (e : List ℕ × ℕ). IsWorldOf l.worlds l.home e.0 e.1) l.name-iterator l.table
