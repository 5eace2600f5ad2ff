-- Interfaces and worlds as JSON.
use Rattle.std.specs.Prelude.{ℕ, Bool, ◌&&◌, ◌||◌, List, ◌++◌, codes, decimal, drop, if◌then◌else◌, nat_eq}
use Rattle.std.specs.Char.{is_ascii_digit}
use Rattle.std.specs.List.{list_all, starts_with}
use Rattle.json.specs.Json.{Json}
use Rattle.wit_data.specs.declared.interface.Interface.{Interface}
use Rattle.wit_data.specs.declared.world.World.{World}
use Rattle.wit_data.specs.declared.world.WorldItem.{WorldItem}
use Rattle.wit_data.specs.declared.world.WorldItem.TheVariants as item
use Rattle.wit_data.specs.declared.world.WorldKey.{WorldKey}
use Rattle.wit_data.specs.declared.world.WorldKey.TheVariants as key
use Rattle.wit_json.specs.Functions.{json_of_function}
use Rattle.wit_json.specs.Gates.{docs_member, stability_member}
use Rattle.wit_json.specs.Values.{json_of_number, json_of_text, member, null_or, object, object_under_names, tagged, object_by}

abbrev pub json_of_interface : Interface → Json
json_of_interface interface =
    object (member (codes "name") (null_or json_of_text interface.name) ++ member (codes "types")
    (object_under_names json_of_number interface.types)
    ++ member (codes "functions") (object_under_names json_of_function interface.functions)
    ++ docs_member interface.docs ++ stability_member interface.stability
    ++ member (codes "package") (null_or json_of_number interface.«package»))

-- `interface-` and digits alone, as in the name of an interface's key
abbrev pub is_like_key : List ℕ → Bool
is_like_key label =
    starts_with nat_eq label (codes "interface-") && list_all is_ascii_digit (drop 10 label)

-- a label that could be taken for a key, or for a label with a mark
abbrev pub wants_mark : List ℕ → Bool
wants_mark label = starts_with nat_eq label (codes "%") || is_like_key label

-- the name of an entry of a world: a label as it is, or behind a `%` where it wants that mark; an interface by its id
abbrev pub entry_name : WorldKey → List ℕ
entry_name (key.Name label) = if wants_mark label then codes "%" ++ label else label
entry_name (key.Interface id) = codes "interface-" ++ decimal id

-- what a world imports or exports
abbrev pub json_of_item : WorldItem → Json
json_of_item (item.Interface id stability docs span external_id) =
    tagged (codes "interface")
    (object (member (codes "id") (json_of_number id) ++ stability_member stability))
json_of_item (item.Function f) = tagged (codes "function") (json_of_function f)
json_of_item (item.Type_ id span) = tagged (codes "type") (json_of_number id)

abbrev pub json_of_world : World → Json
json_of_world world =
    object (member (codes "name") (json_of_text world.name)
    ++ member (codes "imports") (object_by entry_name json_of_item world.imports)
    ++ member (codes "exports") (object_by entry_name json_of_item world.exports)
    ++ member (codes "package") (null_or json_of_number world.«package») ++ docs_member world.docs
    ++ stability_member world.stability)
