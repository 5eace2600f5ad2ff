-- The sources of each operation.
use Rattle.std.specs.Prelude.{ℕ, zero, suc}
use Rattle.wit_data.specs.declared.unresolved.UnresolvedPackage.{UnresolvedPackage}
use Rattle.wit_graph_data.specs.declared.graph.Graph.{Graph}
use Rattle.wit_graph_theory.specs.Cut.{cut_source, graph_source, mapped_source}
use Rattle.wit_remap_spec.specs.Image.{Maps}
use Rattle.wit_remap_spec.specs.Kept.{KeptIds}
use Rattle.wit_graph_theory.specs.steps.Sources.{Source}

-- adding a package: the graph, and what is selected of the package. Foreign interfaces and types are selected (they go
-- to those of the graph), foreign worlds don't: nothing is owned by them, and their package is another
abbrev pub add_sources : KeptIds → Graph → UnresolvedPackage → Maps → ℕ → Source
add_sources kept g u m zero = graph_source g
add_sources kept g u m (suc k) = cut_source kept u.types u.interfaces u.worlds m

-- merging: the graph, and the other graph under the map of the merge
abbrev pub merge_sources : Graph → Graph → Maps → ℕ → Source
merge_sources g other m zero = graph_source g
merge_sources g other m (suc k) = mapped_source other m

-- finishing a world of a package: the graph so far, of which what belongs to finished worlds is selected; the
-- package, of which this world is selected; and for each of its includes the graph so far under the maps of the
-- copies, of which the included world is selected with all that it names
abbrev pub include_source : KeptIds → Graph → Maps → Source
include_source kept g m = cut_source kept g.types g.interfaces g.worlds m
