use Rattle.std.proofs.Common.{ℕ, List}
use Rattle.wit_data.specs.Each.{Each}
use Rattle.wit_graph_data.specs.declared.graph.Package.{Package}
use Rattle.wit_elaboration.specs.Valid.{IsWorldOf}
use Rattle.wit_data.specs.facts.EachFacts.{EachBelow}
use Rattle.wit_graph_faults.proofs.tables.worlds.Given as goal

-- it holds of the first ones
abbrev pub invariant-loop-index : goal.invariant-loop-index
invariant-loop-index l = EachBelow l.index (λ p (home : Package). Each (λ (e : List ℕ × ℕ). IsWorldOf l.worlds p e.0 e.1) home.worlds) l.packages
