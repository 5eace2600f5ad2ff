use Rattle.std.proofs.Common.{ℕ, List}
use Rattle.wit_elaboration.specs.Valid.{IsWorldOf}
use Rattle.wit_data.specs.facts.EachFacts.{EachBelow}
use Rattle.wit_graph_faults.proofs.tables.world_of_another.Given as goal

-- it holds of the first ones
abbrev pub invariant-loop-index : goal.invariant-loop-index
invariant-loop-index l = EachBelow l.index (λ _ (e : List ℕ × ℕ). IsWorldOf l.worlds l.home e.0 e.1) l.table
