-- Unresolved packages as JSON: their things by the words of the layout, with spans and external ids as members of their own
-- and without a package, and each other list of a package as a member. Ids are indices in the lists of the package.
use Rattle.std.specs.Prelude.{ℕ, List, ◌++◌, Option, Some, None, codes, [], ◌∷◌}
use Rattle.std.specs.Option.{option_map}
use Rattle.json.specs.Json.{Json}
use Rattle.wit_names.specs.PackageName.{package_name_text}
use Rattle.wit_data.specs.declared.function.Function.{Function}
use Rattle.wit_data.specs.declared.function.Param.{Param}
use Rattle.wit_data.specs.declared.interface.Interface.{Interface}
use Rattle.wit_data.specs.declared.stability.Docs.{Docs}
use Rattle.wit_data.specs.declared.stability.Stability.{Stability}
use Rattle.wit_data.specs.declared.types.Case.{Case}
use Rattle.wit_data.specs.declared.types.EnumCase.{EnumCase}
use Rattle.wit_data.specs.declared.types.Field.{Field}
use Rattle.wit_data.specs.declared.types.Flag.{Flag}
use Rattle.wit_data.specs.declared.types.TypeDef.{TypeDef}
use Rattle.wit_data.specs.declared.types.TypeDefKind.{TypeDefKind}
use Rattle.wit_data.specs.declared.types.TypeDefKind.TheVariants as kind
use Rattle.wit_data.specs.declared.unresolved.AstItem.{AstItem}
use Rattle.wit_data.specs.declared.unresolved.AstItem.TheVariants as ast
use Rattle.wit_data.specs.declared.unresolved.UnresolvedPackage.{UnresolvedPackage}
use Rattle.wit_data.specs.declared.world.IncludeName.{IncludeName}
use Rattle.wit_data.specs.declared.world.World.{World}
use Rattle.wit_data.specs.declared.world.WorldInclude.{WorldInclude}
use Rattle.wit_data.specs.declared.world.WorldItem.{WorldItem}
use Rattle.wit_data.specs.declared.world.WorldItem.TheVariants as item
use Rattle.wit_json.specs.Details.{external_id_member, json_of_range, json_of_span, span_member}
use Rattle.wit_json.specs.Functions.{json_of_function_kind}
use Rattle.wit_json.specs.Gates.{docs_member, json_of_stability, stability_member}
use Rattle.wit_json.specs.Graph.{json_of_package_name}
use Rattle.wit_json.specs.Types.{json_of_kind, json_of_owner, json_of_type}
use Rattle.wit_json.specs.Values.{json_of_number, json_of_text, list_of, member, null_or, object, object_under_names, optional, pair, tagged, object_by}
use Rattle.wit_json.specs.Worlds.{entry_name}
use Rattle.json.specs.Json as json

-- ---- types and functions

abbrev pub whole_field : Field → Json
whole_field f =
    object (member (codes "name") (json_of_text f.name) ++ member (codes "type") (json_of_type f.ty)
    ++ docs_member f.docs ++ span_member f.span)

abbrev pub whole_case : Case → Json
whole_case c =
    object (member (codes "name") (json_of_text c.name)
    ++ member (codes "type") (null_or json_of_type c.ty) ++ docs_member c.docs
    ++ span_member c.span)

abbrev pub whole_flag : Flag → Json
whole_flag f =
    object (member (codes "name") (json_of_text f.name) ++ docs_member f.docs ++ span_member f.span)

abbrev pub whole_enum_case : EnumCase → Json
whole_enum_case c =
    object (member (codes "name") (json_of_text c.name) ++ docs_member c.docs ++ span_member c.span)

-- what a type is; its fields, flags or cases with their spans
abbrev pub whole_kind : TypeDefKind → Json
whole_kind (kind.Record fields) =
    tagged (codes "record") (tagged (codes "fields") (list_of whole_field fields))
whole_kind (kind.Flags flags) =
    tagged (codes "flags") (tagged (codes "flags") (list_of whole_flag flags))
whole_kind (kind.Variant cases) =
    tagged (codes "variant") (tagged (codes "cases") (list_of whole_case cases))
whole_kind (kind.Enum cases) =
    tagged (codes "enum") (tagged (codes "cases") (list_of whole_enum_case cases))
whole_kind k = json_of_kind k

abbrev pub whole_type : TypeDef → Json
whole_type def =
    object (member (codes "name") (null_or json_of_text def.name) ++ member (codes "kind")
    (whole_kind def.kind) ++ member (codes "owner") (json_of_owner def.owner)
    ++ docs_member def.docs ++ stability_member def.stability ++ span_member def.span
    ++ external_id_member def.external_id)

abbrev pub whole_param : Param → Json
whole_param p =
    object (member (codes "name") (json_of_text p.name) ++ member (codes "type") (json_of_type p.ty)
    ++ span_member p.span)

abbrev pub whole_function : Function → Json
whole_function f =
    object (member (codes "name") (json_of_text f.name)
    ++ member (codes "kind") (json_of_function_kind f.kind) ++ member (codes "params")
    (list_of whole_param f.params)
    ++ optional (codes "result") (option_map json_of_type f.result_) ++ docs_member f.docs
    ++ stability_member f.stability ++ span_member f.span ++ external_id_member f.external_id)

-- ---- interfaces and worlds

abbrev pub whole_interface : Interface → Json
whole_interface interface =
    object (member (codes "name") (null_or json_of_text interface.name) ++ member (codes "types")
    (object_under_names json_of_number interface.types)
    ++ member (codes "functions") (object_under_names whole_function interface.functions)
    ++ docs_member interface.docs ++ stability_member interface.stability
    ++ span_member interface.span)

-- a type of a world: its id alone, or with its span
abbrev pub whole_type_entry : ℕ → Option (ℕ × ℕ) → Json
whole_type_entry id None = json_of_number id
whole_type_entry id (Some range) =
    object (member (codes "id") (json_of_number id) ++ member (codes "span") (json_of_range range))

abbrev pub whole_interface_entry : ℕ → Stability → Docs → Option (ℕ × ℕ) → Option (List ℕ) → Json
whole_interface_entry id stability docs span external_id =
    object (member (codes "id") (json_of_number id) ++ stability_member stability
    ++ docs_member docs ++ span_member span ++ external_id_member external_id)

abbrev pub whole_item : WorldItem → Json
whole_item (item.Interface id stability docs span external_id) =
    tagged (codes "interface") (whole_interface_entry id stability docs span external_id)
whole_item (item.Function f) = tagged (codes "function") (whole_function f)
whole_item (item.Type_ id span) = tagged (codes "type") (whole_type_entry id span)

abbrev pub json_of_include_name : IncludeName → Json
json_of_include_name name =
    object (member (codes "name") (json_of_text name.name)
    ++ member (codes "as") (json_of_text name.as_))

abbrev pub json_of_include : WorldInclude → Json
json_of_include include =
    object (member (codes "id") (json_of_number include.id) ++ member (codes "names")
    (list_of json_of_include_name include.names) ++ stability_member include.stability
    ++ span_member include.span)

abbrev pub whole_world : World → Json
whole_world world =
    object (member (codes "name") (json_of_text world.name)
    ++ member (codes "imports") (object_by entry_name whole_item world.imports)
    ++ member (codes "exports") (object_by entry_name whole_item world.exports)
    ++ member (codes "includes") (list_of json_of_include world.includes) ++ docs_member world.docs
    ++ stability_member world.stability ++ span_member world.span)

-- ---- what is named of other packages

-- an interface or a world by its id
abbrev pub json_of_ast_item : AstItem → Json
json_of_ast_item (ast.Interface id) = tagged (codes "interface") (json_of_number id)
json_of_ast_item (ast.World id) = tagged (codes "world") (json_of_number id)

-- a gate, `null` where there is none
abbrev pub json_of_gate : Stability → Json
json_of_gate stability = null_or (λ (j : Json). j) (json_of_stability stability)

-- what is named of another package, with the gates under which it is named
abbrev pub json_of_foreign_item : AstItem × List Stability → Json
json_of_foreign_item named = pair (json_of_ast_item named.0) (list_of json_of_gate named.1)

-- ---- packages

abbrev pub json_of_unresolved : UnresolvedPackage → Json
json_of_unresolved p =
    object (member (codes "name") (json_of_package_name p.name) ++ span_member p.package_name_span
    ++ docs_member p.docs ++ member (codes "worlds") (list_of whole_world p.worlds)
    ++ member (codes "interfaces") (list_of whole_interface p.interfaces)
    ++ member (codes "types") (list_of whole_type p.types)
    ++ member (codes "foreign-deps")
    (object_by package_name_text (object_under_names json_of_foreign_item) p.foreign_deps)
    ++ member (codes "foreign-dep-spans") (list_of json_of_span p.foreign_dep_spans)
    ++ member (codes "unknown-type-spans") (list_of json_of_span p.unknown_type_spans)
    ++ member (codes "required-resources")
    (list_of (λ (r : ℕ × Option (ℕ × ℕ)). pair (json_of_number r.0) (json_of_span r.1))
    p.required_resource_types))
