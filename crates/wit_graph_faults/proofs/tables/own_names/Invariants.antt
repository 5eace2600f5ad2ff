use Rattle.std.proofs.Common.{◌≡◌, ℕ}
use Rattle.wit_data.specs.Each.{SomeAt}
use Rattle.wit_graph_data.specs.declared.graph.Package.{Package}
use Rattle.wit_names.specs.declared.package_name.PackageName.{PackageName}
use Rattle.wit_data.specs.facts.EachFacts.{EachBelow}
use Rattle.wit_graph_faults.proofs.tables.own_names.Given as goal

-- it holds of the first ones
abbrev pub invariant-loop-index : goal.invariant-loop-index
invariant-loop-index l = EachBelow l.index (λ _ (e : PackageName × ℕ). SomeAt l.packages e.1 (λ (home : Package). home.name ≡ e.0)) l.names
