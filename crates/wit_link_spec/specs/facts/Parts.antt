-- The types and the interfaces of a graph behind which a package is put, before its worlds: all that types and
-- interfaces refer to is known here, so that the uses of interfaces are, before any world is elaborated.
use Rattle.std.specs.Prelude.{◌≡◌, List, ◌++◌, map}
use Rattle.wit_data.specs.declared.interface.Interface.{Interface}
use Rattle.wit_data.specs.declared.types.TypeDef.{TypeDef}
use Rattle.wit_remap_spec.specs.Image.{interface_image, type_image}
use Rattle.wit_link_spec.specs.Addition.{Addition, addition_maps, own_interfaces, remap_of_addition}
use Rattle.wit_remap_spec.specs.steps.Parts.{owns}
use Rattle.wit_link_spec.specs.steps.Parts.{own_types}

-- those of the graph, and behind them the images of the package's own and the `own`s that values ask for
pub record HasParts (a : Addition) (types : List TypeDef) (interfaces : List Interface) : Type 0
  where
    pub types_are : types
        ≡ a.graph.types
        ++ (map (type_image (addition_maps a)) (own_types a) ++ owns (remap_of_addition a))
    pub interfaces_are : interfaces
        ≡ a.graph.interfaces ++ map (interface_image (addition_maps a)) (own_interfaces a)
