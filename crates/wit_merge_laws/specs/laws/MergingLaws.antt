-- Laws of merging.
use Rattle.std.specs.Prelude.{◌≡◌, ◌⊎◌, ◌↔◌, ℕ, List}
use Rattle.wit_names.specs.declared.package_name.PackageName.{PackageName}
use Rattle.wit_elaboration.specs.examples.Examples.{empty_graph}
use Rattle.wit_elaboration.specs.Valid.{IsValid}
use Rattle.wit_graph_data.specs.declared.graph.Graph.{Graph}
use Rattle.wit_merge_spec.specs.Cause.{MergeIsAccepted}
use Rattle.wit_merge_spec.specs.Matches.{GraphMerge}
use Rattle.wit_merge_spec.specs.Merged.{merged}
use Rattle.wit_merge_laws.specs.laws.Names.{HasImport, HasName, Name, of_world}

-- one graph goes into another
abbrev pub merge_of_graphs : Graph → Graph → ℕ → GraphMerge
merge_of_graphs g other offset = record { graph = g; other = other; offset = offset }

-- where an empty graph goes into a valid one, no cause holds against it and nothing changes
abbrev pub NothingComes : Type 0
NothingComes =
    (g : Graph) (offset : ℕ) → IsValid g
    → MergeIsAccepted (merge_of_graphs g empty_graph offset)
    × (merged (merge_of_graphs g empty_graph offset) ≡ g)

-- what merging makes of two valid graphs is valid, where no cause holds against the merge
abbrev pub MergesStayValid : Type 0
MergesStayValid =
    (m : GraphMerge) → IsValid m.graph → IsValid m.other → MergeIsAccepted m → IsValid (merged m)

-- it has the names of both graphs, and no others
abbrev pub MergesHaveBothNames : Type 0
MergesHaveBothNames =
    (m : GraphMerge) (name : Name) → IsValid m.graph → IsValid m.other → MergeIsAccepted m
    → HasName (merged m) name ↔ (HasName m.graph name ⊎ HasName m.other name)

-- and a world that both graphs have imports the same interfaces under their own keys in both, and in what is made of them
abbrev pub SharedWorldsKeepImports : Type 0
SharedWorldsKeepImports =
    (m : GraphMerge) (home of : PackageName) (world name : List ℕ) → IsValid m.graph
    → IsValid m.other → MergeIsAccepted m → HasName m.graph (of_world home world)
    → HasName m.other (of_world home world)
    → (HasImport (merged m) home world of name ↔ HasImport m.graph home world of name)
    × (HasImport m.other home world of name ↔ HasImport m.graph home world of name)
