-- The functions that are active of a package, one after another: those of its interfaces, then of its worlds.
use Rattle.std.specs.Prelude.{ℕ, List, [], ◌∷◌, ◌++◌, map, length, slice_get, if◌then◌else◌, flat_map}
use Rattle.std.specs.Borrow.{Bor}
use Rattle.std.specs.List.{range_with_len}
use Rattle.std.specs.Option.{option_map_or}
use Rattle.wit_data.specs.Entries.{Entry}
use Rattle.wit_data.specs.declared.function.Function.{Function}
use Rattle.wit_data.specs.declared.interface.Interface.{Interface}
use Rattle.wit_data.specs.declared.world.World.{World}
use Rattle.wit_data.specs.declared.world.WorldItem.{WorldItem}
use Rattle.wit_data.specs.declared.world.WorldItem.TheVariants as item
use Rattle.wit_graph_data.specs.declared.features.Features.{Features}
use Rattle.wit_link_spec.specs.Addition.{Addition}
use Rattle.wit_link_spec.specs.Gates.{interface_is_active, world_is_active}
use Rattle.wit_link_spec.specs.steps.Parts.{function_is_active}

-- a function, where it is active
abbrev pub active_one : Features → Function → List Function
active_one features f = if function_is_active features f then f ∷ [] else []

-- the active functions under their names
abbrev pub active_named : Features → List (List ℕ × Function) → List Function
active_named features named = flat_map (λ (e : List ℕ × Function). active_one features e.1) named

-- the function that an entry is, where it is active
abbrev pub active_item : Features → WorldItem → List Function
active_item features (item.Function f) = active_one features f
active_item features (item.Interface i stability docs span external_id) = []
active_item features (item.Type_ t span) = []

-- the active functions among entries
abbrev pub active_entries : Features → List Entry → List Function
active_entries features entries = flat_map (λ (e : Entry). active_item features e.1) entries

-- those of interface i, where it is active
abbrev pub interface_functions : Addition → ℕ → List Function
interface_functions a i =
    if interface_is_active a.features a.unresolved i
    then option_map_or (λ (interface : Interface). active_named a.features interface.functions)
    (slice_get a.unresolved.interfaces i) [] else []

-- those of world w, where it is active
abbrev pub world_functions : Addition → ℕ → List Function
world_functions a w =
    if world_is_active a.features a.unresolved w
    then option_map_or (λ (world : World).
    active_entries a.features world.imports ++ active_entries a.features world.exports)
    (slice_get a.unresolved.worlds w) [] else []

-- all that are active
abbrev pub active_functions : Addition → List Function
active_functions a =
    flat_map (interface_functions a) (range_with_len 0 (length a.unresolved.interfaces))
    ++ flat_map (world_functions a) (range_with_len 0 (length a.unresolved.worlds))

-- functions that are looked at
abbrev pub seen : List (Bor Function) → List Function
seen functions = map (λ (f : Bor Function). f.now) functions
