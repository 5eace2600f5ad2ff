-- What differs of two graphs at one place of their lists: the words of the steps that look for a mismatch.
use Rattle.std.specs.Prelude.{ℕ}
use Rattle.wit_graph_data.specs.declared.graph.Graph.{Graph}
use Rattle.wit_merge_spec.specs.Matches.{GraphMerge}

-- the other graph goes into the graph, and its spans move by this offset
abbrev pub merge_of_graphs_by : Graph → Graph → ℕ → GraphMerge
merge_of_graphs_by g other offset = record { graph = g; other = other; offset = offset }
