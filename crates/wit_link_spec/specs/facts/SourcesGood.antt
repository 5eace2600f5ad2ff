-- The sources of an addition are good: the graph, and what is active of the package.
use Rattle.std.specs.Prelude.{ℕ, zero, suc}
use Rattle.wit_data.specs.Shape.{IsShaped}
use Rattle.wit_elaboration.specs.Valid.{IsValid}
use Rattle.wit_graph_theory.specs.Cut.{cut_source}
use Rattle.wit_graph_theory.specs.facts.CutIsGood.{cut_is_good}
use Rattle.wit_graph_theory.specs.facts.GoodIsValid.{good_things}
use Rattle.wit_graph_theory.specs.facts.GraphSource.{mapped_is_good}
use Rattle.wit_graph_theory.specs.Operations.{add_sources}
use Rattle.wit_graph_theory.specs.facts.ShapeIsGood.{shape_is_good}
use Rattle.wit_graph_theory.specs.steps.Sources.{IsGoodSource, Source}
use Rattle.wit_link_spec.specs.Addition.{Addition, addition_maps}
use Rattle.wit_link_spec.specs.facts.ActivePart.{part}
use Rattle.wit_link_spec.specs.facts.ClosedCut.{closed_part}
use Rattle.wit_link_spec.specs.Reasons.{IsResolved}
use Rattle.wit_remap_spec.specs.steps.Parts.{identity}

-- the sources: the graph, and the package
abbrev pub sources : Addition → ℕ → Source
sources a = add_sources (part a) a.graph a.unresolved (addition_maps a)

-- the package as a source
abbrev pub package_source : Addition → Source
package_source a =
    cut_source (part a) a.unresolved.types a.unresolved.interfaces a.unresolved.worlds
    (addition_maps a)

-- both are good
pub sources_good : (a : Addition) → IsValid a.graph → IsShaped a.unresolved → IsResolved a → (k : ℕ) → IsGoodSource (sources a k)
sources_good a valid shaped image zero = mapped_is_good a.graph (good_things a.graph valid) valid.no_cycles.types identity
sources_good a valid shaped image (suc k) =
    cut_is_good (part a) a.unresolved.types a.unresolved.interfaces a.unresolved.worlds (addition_maps a) (closed_part a shaped image) (shape_is_good a.unresolved shaped (part a) shaped.keys.types shaped.keys.functions)
