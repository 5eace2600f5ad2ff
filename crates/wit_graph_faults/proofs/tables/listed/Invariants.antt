use Rattle.std.proofs.Common.{Contains}
use Rattle.wit_graph_data.specs.declared.graph.Package.{Package}
use Rattle.wit_data.specs.facts.EachFacts.{EachBelow}
use Rattle.wit_graph_faults.proofs.tables.listed.Given as goal

-- it holds of the first ones
abbrev pub invariant-loop-index : goal.invariant-loop-index
invariant-loop-index l = EachBelow l.index (λ p (home : Package). Contains l.names (home.name, p)) l.packages
