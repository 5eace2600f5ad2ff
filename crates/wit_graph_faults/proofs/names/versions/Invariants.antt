use Rattle.wit_graph_data.specs.declared.graph.Package.{Package}
use Rattle.wit_names.specs.PackageName.{HasValidVersion}
use Rattle.wit_data.specs.facts.EachFacts.{EachBelow}
use Rattle.wit_graph_faults.proofs.names.versions.Given as goal

-- it holds of the first ones
abbrev pub invariant-loop-index : goal.invariant-loop-index
invariant-loop-index l = EachBelow l.index (λ _ (home : Package). HasValidVersion home.name) l.packages
