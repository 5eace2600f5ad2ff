-- What a semver merge that is made beside a graph makes of it.
use Rattle.std.specs.Prelude.{ℕ}
use Rattle.wit_graph_data.specs.declared.graph.Graph.{Graph}
use Rattle.wit_semver.specs.declared.merging.SemverChange.{SemverChange}
use Rattle.wit_semver.specs.declared.merging.SemverChange.TheVariants.{Imports, Graph as Whole}
use Rattle.wit_semver.specs.steps.Replacing.{with_imports}

-- the graph after a semver merge of world w
abbrev pub graph_after : Graph → ℕ → SemverChange → Graph
graph_after g w (Imports imports) = with_imports g w imports
graph_after g w (Whole merged) = merged
