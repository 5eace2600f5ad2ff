-- Names of core wasm as JSON.
use Rattle.std.specs.Prelude.{List, ◌++◌, Option, codes}
use Rattle.json.specs.Json.{Json}
use Rattle.wit_data.specs.declared.world.WorldKey.{WorldKey}
use Rattle.wit_json.specs.Values.{Member, json_of_text, list_of, member, null_or, object}
use Rattle.wit_json.specs.Worlds.{entry_name}
use Rattle.wit_json_commands.specs.declared.replies.core_names.CoreExport.{CoreExport}
use Rattle.wit_json_commands.specs.declared.replies.core_names.CoreImport.{CoreImport}
use Rattle.wit_json_commands.specs.declared.replies.core_names.CoreNames.{CoreNames}

-- the interface that a function stands in, as its key names an entry; `null` where it is one of the world itself
abbrev pub interface_member : Option WorldKey → List Member
interface_member interface =
    member (codes "interface") (null_or (λ key. json_of_text (entry_name key)) interface)

abbrev pub json_of_core_import : CoreImport → Json
json_of_core_import it =
    object (interface_member it.interface ++ member (codes "function") (json_of_text it.function)
    ++ member (codes "module") (json_of_text it.module) ++ member (codes "field")
    (json_of_text it.field))

abbrev pub json_of_core_export : CoreExport → Json
json_of_core_export it =
    object (interface_member it.interface ++ member (codes "function") (json_of_text it.function)
    ++ member (codes "name") (json_of_text it.name))

abbrev pub json_of_core_names : CoreNames → Json
json_of_core_names names =
    object (member (codes "imports") (list_of json_of_core_import names.imports)
    ++ member (codes "exports") (list_of json_of_core_export names.exports))
