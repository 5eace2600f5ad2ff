-- What is left of a listing of interfaces that has come some way.
use Rattle.std.specs.Prelude.{ℕ, List, [], ◌++◌, Option, filter_map, slice_get, unwrap_or, flat_map}
use Rattle.std.specs.Option.{option_map_or}
use Rattle.wit_data.specs.Uses.{interface_uses}
use Rattle.wit_data.specs.declared.interface.Interface.{Interface}
use Rattle.wit_data.specs.declared.types.TypeDef.{TypeDef}
use Rattle.wit_data.specs.declared.world.World.{World}
use Rattle.wit_graph_data.specs.Queries.{other_package, world_interfaces}

-- of what the interfaces of a table use: those of the one that is begun, and of the ones after it
abbrev pub remaining_uses : List TypeDef → List Interface → Option (List ℕ) → List (List ℕ × ℕ)
    → List ℕ
remaining_uses types interfaces begun rest =
    unwrap_or begun []
    ++ flat_map
    (λ (e : List ℕ × ℕ). option_map_or (interface_uses types) (slice_get interfaces e.1) [])
    rest

-- of what the worlds of a table name: those of the one that is begun, and of the ones after it
abbrev pub remaining_interfaces : List TypeDef → List World → Option (List ℕ) → List (List ℕ × ℕ)
    → List ℕ
remaining_interfaces types worlds begun rest =
    unwrap_or begun []
    ++ flat_map
    (λ (e : List ℕ × ℕ). option_map_or (world_interfaces types) (slice_get worlds e.1) [])
    rest

-- the packages of interfaces, those other than package p
abbrev pub other_packages : List Interface → ℕ → List ℕ → List ℕ
other_packages interfaces p is = filter_map (other_package interfaces p) is
