-- Where packages of a graph stand. A package has no span: its interfaces and worlds have.
use Rattle.std.specs.Prelude.{ℕ, List, [], ◌∷◌, ◌++◌, map, slice_get, Option, Some, None, option_and_then}
use Rattle.wit_names.specs.declared.package_name.PackageName.{PackageName}
use Rattle.wit_data.specs.declared.interface.Interface.{Interface}
use Rattle.wit_data.specs.declared.world.World.{World}
use Rattle.wit_graph_data.specs.Named.{package_named}
use Rattle.wit_graph_data.specs.declared.graph.Graph.{Graph}
use Rattle.wit_graph_data.specs.declared.graph.Package.{Package}
use Rattle.wit_sources.specs.Span.{OptionalSpan}

abbrev pub interface_span : Graph → ℕ → OptionalSpan
interface_span g i =
    option_and_then (λ (interface : Interface). interface.span) (slice_get g.interfaces i)

abbrev pub world_span : Graph → ℕ → OptionalSpan
world_span g w = option_and_then (λ (world : World). world.span) (slice_get g.worlds w)

-- the first known one of some spans
abbrev pub first_known : List OptionalSpan → OptionalSpan
first_known [] = None
first_known (Some range ∷ spans) = Some range
first_known (None ∷ spans) = first_known spans

-- where the first thing of a package stands whose place is known, of its interfaces and then its worlds
abbrev pub package_span : Graph → PackageName → OptionalSpan
package_span g name =
    option_and_then (λ (home : Package).
    first_known (map (λ e. interface_span g e.1) home.interfaces
    ++ map (λ e. world_span g e.1) home.worlds))
    (option_and_then (slice_get g.packages) (package_named g name))
