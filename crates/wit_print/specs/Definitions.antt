-- Definitions of types as WIT text has them.
use Rattle.std.specs.Prelude.{ℕ, ◌==◌, List, [], ◌++◌, Option, slice_get, codes, flat_map, length, unwrap_or, bytes_eq, option_and_then, if◌then◌else◌}
use Rattle.std.specs.Option.{option_map_or}
use Rattle.wit_data.specs.Uses.{alias_target, type_interface_dep}
use Rattle.wit_data.specs.declared.stability.Docs.{Docs}
use Rattle.wit_data.specs.declared.types.Case.{Case}
use Rattle.wit_data.specs.declared.types.EnumCase.{EnumCase}
use Rattle.wit_data.specs.declared.types.Field.{Field}
use Rattle.wit_data.specs.declared.types.Flag.{Flag}
use Rattle.wit_data.specs.declared.types.TypeDef.{TypeDef}
use Rattle.wit_data.specs.declared.types.TypeDefKind.{TypeDefKind}
use Rattle.wit_data.specs.declared.types.TypeDefKind.TheVariants as kind
use Rattle.wit_data.specs.declared.types.Type_.{Type_}
use Rattle.wit_graph_data.specs.declared.graph.Graph.{Graph}
use Rattle.wit_print.specs.Headings.{block_wit, docs_wit, heading_wit}
use Rattle.wit_print.specs.Names.{name_wit, path_wit}
use Rattle.wit_print.specs.Types.{defined_wit, type_wit}

-- a part of a definition on a line: its name, and what stands behind it
abbrev pub part_wit : List ℕ → Docs → List ℕ → List ℕ → List ℕ
part_wit indent docs name rest =
    docs_wit indent docs ++ (indent ++ (name_wit name ++ (rest ++ codes ",\n")))

abbrev pub field_wit : List TypeDef → List ℕ → Field → List ℕ
field_wit types indent field =
    part_wit indent field.docs field.name (codes ": " ++ type_wit types field.ty)

-- a case, with its type in parentheses
abbrev pub case_wit : List TypeDef → List ℕ → Case → List ℕ
case_wit types indent case =
    part_wit indent case.docs case.name
    (option_map_or (λ (ty : Type_). codes "(" ++ (type_wit types ty ++ codes ")")) case.ty [])

-- a definition: a resource stands in braces if it has functions; the parts of others stand two spaces further in
unfoldable pub kind_definition : List TypeDef → List ℕ → List ℕ → List ℕ → TypeDefKind → List ℕ
kind_definition types indent name methods kind.Resource =
    if length methods == 0 then indent ++ (codes "resource " ++ (name_wit name ++ codes ";\n"))
    else block_wit indent (codes "resource ") name methods
kind_definition types indent name methods (kind.Record fields) =
    block_wit indent (codes "record ") name
    (flat_map (field_wit types (indent ++ codes "  ")) fields)
kind_definition types indent name methods (kind.Variant cases) =
    block_wit indent (codes "variant ") name
    (flat_map (case_wit types (indent ++ codes "  ")) cases)
kind_definition types indent name methods (kind.Flags flags) =
    block_wit indent (codes "flags ") name
    (flat_map (λ (f : Flag). part_wit (indent ++ codes "  ") f.docs f.name []) flags)
kind_definition types indent name methods (kind.Enum cases) =
    block_wit indent (codes "enum ") name
    (flat_map (λ (c : EnumCase). part_wit (indent ++ codes "  ") c.docs c.name []) cases)
kind_definition types indent name methods k =
    indent
    ++ (codes "type "
    ++ (name_wit name ++ (codes " = " ++ (defined_wit types k ++ codes ";\n"))))

-- the name of the type that an alias names, or no text
abbrev pub aliased_name : List TypeDef → TypeDefKind → List ℕ
aliased_name types k =
    unwrap_or (option_and_then (λ (def : TypeDef). def.name)
    (option_and_then (slice_get types) (alias_target k))) []

-- a name, and the one that it gets if that is another
abbrev pub renamed_wit : List ℕ → List ℕ → List ℕ
renamed_wit used name =
    if bytes_eq used name then name_wit name
    else name_wit used ++ (codes " as " ++ name_wit name)

-- the use of a type of another interface
unfoldable pub use_wit : Graph → Option ℕ → List ℕ → TypeDef → ℕ → List ℕ
use_wit g home indent def owner =
    indent
    ++ (codes "use "
    ++ (path_wit g home owner
    ++ (codes ".{"
    ++ (renamed_wit (aliased_name g.types def.kind) (unwrap_or def.name []) ++ codes "};\n"))))

-- type t of an interface or a world of a package: a use if it is another interface's, else a definition, with what is
-- written of the functions of a resource
unfoldable pub definition_wit : Graph → Option ℕ → List ℕ → ℕ → List ℕ → List ℕ
definition_wit g home indent t methods =
    option_map_or (λ (def : TypeDef).
    heading_wit indent def.docs def.stability def.external_id
    ++ option_map_or (use_wit g home indent def) (type_interface_dep g.types t)
    (kind_definition g.types indent (unwrap_or def.name []) methods def.kind))
    (slice_get g.types t) []
