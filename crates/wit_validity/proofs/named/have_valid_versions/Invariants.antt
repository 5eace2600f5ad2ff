use Rattle.wit_data.specs.facts.EachFacts.{EachBelow}
use Rattle.wit_graph_data.specs.declared.graph.Package.{Package}
use Rattle.wit_names.specs.PackageName.{HasValidVersion}
use Rattle.wit_validity.proofs.named.have_valid_versions.Given as goal

-- the first ones have
abbrev pub invariant-loop-home : goal.invariant-loop-home
invariant-loop-home l = EachBelow l.home-index (λ _ (home : Package). HasValidVersion home.name) l.packages
