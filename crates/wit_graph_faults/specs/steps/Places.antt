-- Which places of packages are places of graphs.
use Rattle.std.specs.Prelude.{Option, Some, None}
use Rattle.wit_shape.specs.declared.place.ShapePlace.{ShapePlace}
use Rattle.wit_shape.specs.declared.place.ShapePlace.TheVariants as shape
use Rattle.wit_graph_faults.specs.declared.place.GraphPlace.{GraphPlace}
use Rattle.wit_graph_faults.specs.declared.place.GraphPlace.TheVariants as place

-- the same place of a graph; what only packages have is none
abbrev pub graph_place : ShapePlace → Option GraphPlace
graph_place (shape.Interface f) = Some (place.Interface f)
graph_place (shape.World w) = Some (place.World w)
graph_place (shape.Type_ t) = Some (place.Type_ t)
graph_place (shape.InterfaceType f i) = Some (place.InterfaceType f i)
graph_place (shape.Function f i) = Some (place.Function f i)
graph_place (shape.Import w i) = Some (place.Import w i)
graph_place (shape.Export w i) = Some (place.Export w i)
graph_place shape.Name = None
graph_place shape.ForeignDepSpans = None
graph_place shape.UnknownTypeSpans = None
graph_place (shape.RequiredResource i) = None
graph_place (shape.ForeignItem p i) = None
graph_place (shape.Include w i) = None
