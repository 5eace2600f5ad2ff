use Rattle.std.proofs.Common.{◌≡◌, ◌++◌, ℕ, List, string_bytes}
use Rattle.std.specs.List.{flat_map}
use Rattle.wit_graph_data.specs.IdText.{id_text}
use Rattle.wit_queries.specs.Selection.{world_line}
use Rattle.wit_queries.proofs.selection.worlds_of.Given as goal
use Rattle.wit_queries.specs.steps.Parts.{package_world_lines}

-- the lines so far, and those of the worlds that are left
abbrev pub invariant-loop-name : goal.invariant-loop-name
invariant-loop-name l =
    string_bytes l.lines
    ++ flat_map (λ (e : List ℕ × ℕ). world_line (id_text l.graph.packages l.id e.0))
    l.name-iterator ≡ package_world_lines l.graph l.id l.package
