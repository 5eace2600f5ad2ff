-- Where the things of a merged graph stand, as JSON.
use Rattle.std.specs.Prelude.{◌++◌, codes}
use Rattle.json.specs.Json.{Json}
use Rattle.wit_json.specs.Values.{json_of_number, list_of, member, null_or, object}
use Rattle.wit_remap.specs.declared.remap.Remap.{Remap}

-- at each index of a list of the other graph the id in this one, or `null`
abbrev pub json_of_remap : Remap → Json
json_of_remap remap =
    object (member (codes "types") (list_of (null_or json_of_number) remap.types)
    ++ member (codes "interfaces") (list_of (null_or json_of_number) remap.interfaces)
    ++ member (codes "worlds") (list_of (null_or json_of_number) remap.worlds)
    ++ member (codes "packages") (list_of json_of_number remap.packages))
