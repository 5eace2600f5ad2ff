-- What the layout leaves out of a graph, under keys of its own: where things stand in the sources, their external ids, and
-- the docs of entries of worlds. Each list has what is said of a thing at the index that is its id.
use Rattle.std.specs.Prelude.{ℕ, List, [], ◌++◌, Option, codes}
use Rattle.std.specs.Option.{option_map}
use Rattle.json.specs.Json.{Json}
use Rattle.wit_data.specs.declared.function.Function.{Function}
use Rattle.wit_data.specs.declared.function.Param.{Param}
use Rattle.wit_data.specs.declared.interface.Interface.{Interface}
use Rattle.wit_data.specs.declared.types.Case.{Case}
use Rattle.wit_data.specs.declared.types.EnumCase.{EnumCase}
use Rattle.wit_data.specs.declared.types.Field.{Field}
use Rattle.wit_data.specs.declared.types.Flag.{Flag}
use Rattle.wit_data.specs.declared.types.TypeDef.{TypeDef}
use Rattle.wit_data.specs.declared.types.TypeDefKind.{TypeDefKind}
use Rattle.wit_data.specs.declared.types.TypeDefKind.TheVariants as kind
use Rattle.wit_data.specs.declared.world.World.{World}
use Rattle.wit_data.specs.declared.world.WorldItem.{WorldItem}
use Rattle.wit_data.specs.declared.world.WorldItem.TheVariants as item
use Rattle.wit_graph_data.specs.declared.graph.Graph.{Graph}
use Rattle.wit_json.specs.Gates.{docs_member}
use Rattle.wit_json.specs.Values.{Member, json_of_number, json_of_text, list_of, member, null_or, object, object_under_names, optional, pair, object_by}
use Rattle.wit_json.specs.Worlds.{entry_name}
use Rattle.json.specs.Json as json

-- `[start, end]`, the end not included
abbrev pub json_of_range : ℕ × ℕ → Json
json_of_range range = pair (json_of_number range.0) (json_of_number range.1)

-- `null` where it is unknown
abbrev pub json_of_span : Option (ℕ × ℕ) → Json
json_of_span span = null_or json_of_range span

-- a span, left out where it is unknown
abbrev pub span_member : Option (ℕ × ℕ) → List Member
span_member span = optional (codes "span") (option_map json_of_range span)

abbrev pub external_id_member : Option (List ℕ) → List Member
external_id_member id = optional (codes "external-id") (option_map json_of_text id)

-- the spans of the fields, the flags or the cases of a type that has some
abbrev pub parts_member : TypeDefKind → List Member
parts_member (kind.Record fields) =
    member (codes "parts") (list_of (λ (f : Field). json_of_span f.span) fields)
parts_member (kind.Flags flags) =
    member (codes "parts") (list_of (λ (f : Flag). json_of_span f.span) flags)
parts_member (kind.Variant cases) =
    member (codes "parts") (list_of (λ (c : Case). json_of_span c.span) cases)
parts_member (kind.Enum cases) =
    member (codes "parts") (list_of (λ (c : EnumCase). json_of_span c.span) cases)
parts_member _ = []

abbrev pub type_details : TypeDef → Json
type_details def =
    object (span_member def.span ++ external_id_member def.external_id ++ parts_member def.kind)

abbrev pub function_details : Function → Json
function_details f =
    object (span_member f.span ++ external_id_member f.external_id
    ++ member (codes "params") (list_of (λ (p : Param). json_of_span p.span) f.params))

abbrev pub interface_details : Interface → Json
interface_details interface =
    object (span_member interface.span
    ++ member (codes "functions") (object_under_names function_details interface.functions))

abbrev pub item_details : WorldItem → Json
item_details (item.Interface id stability docs span external_id) =
    object (docs_member docs ++ span_member span ++ external_id_member external_id)
item_details (item.Function f) = function_details f
item_details (item.Type_ id span) = object (span_member span)

abbrev pub world_details : World → Json
world_details world =
    object (span_member world.span
    ++ member (codes "imports") (object_by entry_name item_details world.imports)
    ++ member (codes "exports") (object_by entry_name item_details world.exports))

abbrev pub graph_details : Graph → Json
graph_details graph =
    object (member (codes "worlds") (list_of world_details graph.worlds)
    ++ member (codes "interfaces") (list_of interface_details graph.interfaces)
    ++ member (codes "types") (list_of type_details graph.types))
