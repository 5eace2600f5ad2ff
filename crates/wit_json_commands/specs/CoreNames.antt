-- The names in core wasm of the functions that a world imports and exports.
use Rattle.std.specs.Prelude.{ℕ, List, [], ◌∷◌, ◌++◌, Option, None, Some, map, flat_map, filter_map, slice_get, codes, if◌then◌else◌}
use Rattle.std.specs.Option.{option_map_or}
use Rattle.wit_data.specs.declared.abi.LiftLowerAbi.TheVariants.{AsyncCallback, AsyncStackful, Sync}
use Rattle.wit_data.specs.declared.abi.ManglingAndAbi.{ManglingAndAbi}
use Rattle.wit_data.specs.declared.abi.ManglingAndAbi.TheVariants.{Legacy, Standard32}
use Rattle.wit_data.specs.declared.function.Function.{Function}
use Rattle.wit_data.specs.declared.interface.Interface.{Interface}
use Rattle.wit_data.specs.declared.world.World.{World}
use Rattle.wit_data.specs.declared.world.WorldItem.{WorldItem}
use Rattle.wit_data.specs.declared.world.WorldItem.TheVariants as item
use Rattle.wit_data.specs.declared.world.WorldKey.{WorldKey}
use Rattle.wit_graph_data.specs.declared.graph.Graph.{Graph}
use Rattle.wit_core_names.specs.Names.{export_prefix, import_prefix, interface_has_name, legacy_key, legacy_module, standard_key, standard_module}
use Rattle.wit_json_commands.specs.declared.commands.questions.Mangling.{Mangling}
use Rattle.wit_json_commands.specs.declared.commands.questions.Mangling.TheVariants as asked
use Rattle.wit_json_commands.specs.declared.replies.core_names.CoreExport.{CoreExport}
use Rattle.wit_json_commands.specs.declared.replies.core_names.CoreImport.{CoreImport}
use Rattle.wit_json_commands.specs.declared.replies.core_names.CoreNames.{CoreNames}

abbrev pub mangling_and_abi : Mangling → ManglingAndAbi
mangling_and_abi asked.Standard32 = Standard32
mangling_and_abi asked.LegacySync = Legacy Sync
mangling_and_abi asked.LegacyAsyncCallback = Legacy AsyncCallback
mangling_and_abi asked.LegacyAsyncStackful = Legacy AsyncStackful

-- a function of a world, and the key of the interface that it stands in
abbrev pub PlacedFunction : Type 0
PlacedFunction = Option WorldKey × Function

-- the functions of an entry of a world: of an interface those that it has
abbrev pub entry_functions : Graph → WorldKey × WorldItem → List PlacedFunction
entry_functions g (key, item.Function f) = (None, f) ∷ []
entry_functions g (key, item.Interface id stability docs span external_id) =
    option_map_or (λ (interface : Interface).
    map (λ (e : List ℕ × Function). (Some key, e.1)) interface.functions)
    (slice_get g.interfaces id) []
entry_functions g (key, item.Type_ id span) = []

-- the module and the field of a function that is imported, as `import_names` has them
abbrev pub function_import_names : Graph → ManglingAndAbi → PlacedFunction → List ℕ × List ℕ
function_import_names g Standard32 placed = (standard_module g placed.0, placed.1.name)
function_import_names g (Legacy abi) placed =
    (legacy_module g placed.0, import_prefix abi ++ placed.1.name)

-- the name of a function that is exported, as `export_name` has it
abbrev pub function_export_name : Graph → ManglingAndAbi → PlacedFunction → List ℕ
function_export_name g Standard32 placed =
    codes "cm32p2|" ++ (standard_key g placed.0 ++ (codes "|" ++ placed.1.name))
function_export_name g (Legacy abi) placed =
    export_prefix abi ++ (legacy_key g placed.0 ++ placed.1.name)

-- a function that is imported, where its interface has a name
abbrev pub core_import : Graph → ManglingAndAbi → PlacedFunction → Option CoreImport
core_import g mangling placed =
    if interface_has_name g.interfaces placed.0
    then Some (record {
      interface = placed.0;
      function = placed.1.name;
      «module» = (function_import_names g mangling placed).0;
      field = (function_import_names g mangling placed).1;
    })
    else None

-- a function that is exported, where its interface has a name
abbrev pub core_export : Graph → ManglingAndAbi → PlacedFunction → Option CoreExport
core_export g mangling placed =
    if interface_has_name g.interfaces placed.0
    then Some (record {
      interface = placed.0;
      function = placed.1.name;
      name = function_export_name g mangling placed;
    })
    else None

abbrev pub core_imports : Graph → ManglingAndAbi → List (WorldKey × WorldItem) → List CoreImport
core_imports g mangling entries =
    filter_map (core_import g mangling) (flat_map (entry_functions g) entries)

abbrev pub core_exports : Graph → ManglingAndAbi → List (WorldKey × WorldItem) → List CoreExport
core_exports g mangling entries =
    filter_map (core_export g mangling) (flat_map (entry_functions g) entries)

-- the functions that a world imports and exports
abbrev pub core_names_of : Graph → ManglingAndAbi → World → CoreNames
core_names_of g mangling world =
    record {
      imports = core_imports g mangling world.imports;
      exports = core_exports g mangling world.exports;
    }
