use Rattle.std.proofs.Common.{◌≡◌, ℕ}
use Rattle.wit_graph_data.specs.declared.graph.Package.{Package}
use Rattle.wit_data.specs.Each.{SomeAt}
use Rattle.wit_names.specs.declared.package_name.PackageName.{PackageName}
use Rattle.wit_data.specs.facts.YieldedFacts.{LeftDecide}
use Rattle.wit_validity.proofs.package_names.name_their_own.Given as goal

-- those that are left decide
abbrev pub invariant-loop-name : goal.invariant-loop-name
invariant-loop-name l = LeftDecide (λ (e : PackageName × ℕ). SomeAt l.packages e.1 (λ (home : Package). home.name ≡ e.0)) l.name-iterator l.names
