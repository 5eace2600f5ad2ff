-- Parts of the definitions under names of their own, for contracts of inner functions and for proofs. Each is what stands
-- in a definition in its place, so none has to be believed.
use Rattle.std.specs.Prelude.{ℕ, List, [], ◌∷◌, Option, Some, None, option_and_then, if◌then◌else◌, option_map, is_some, bytes_eq, ◌++◌, length, nat_le, slice_get, slice_set}
use Rattle.std.specs.Option.{option_or}
use Rattle.wit_data.specs.declared.function.FunctionKind.{FunctionKind}
use Rattle.wit_script_lines.specs.Token.{primitive_of}
use Rattle.wit_script_package.specs.Naming.{earlier, OptionalSpan, interface_named, world_named, open_interface, open_world, type_at}
use Rattle.wit_script_package.specs.declared.draft.Draft.{Draft}
use Rattle.std.specs.List.{position_or_len}
use Rattle.wit_data.specs.declared.interface.Interface.{Interface}
use Rattle.wit_names.specs.declared.use_path.ParsedUsePath.{ParsedUsePath}
use Rattle.wit_data.specs.declared.types.TypeDef.{TypeDef}
use Rattle.wit_data.specs.declared.world.World.{World}
use Rattle.wit_script_package.specs.Adding.{empty_world, with_export, with_function, with_import, with_include, with_named}
use Rattle.wit_script_package.specs.declared.draft.LineContext.{LineContext}
use Rattle.wit_script_package.specs.declared.mention.Mention.{Mention}
use Rattle.wit_sources.specs.SourceMap.{Sources, with_file}
use Rattle.wit_data.specs.declared.unresolved.UnresolvedPackageGroup.{UnresolvedPackageGroup}
use Rattle.wit_script_package.specs.Mention.{first_worlds, mentioned_at, same_item}
use Rattle.wit_data.specs.New.{new_function}
use Rattle.wit_data.specs.declared.types.Field.{Field}
use Rattle.wit_data.specs.declared.function.Function.{Function}
use Rattle.wit_data.specs.declared.function.Param.{Param}
use Rattle.wit_data.specs.declared.types.TypeDefKind.{TypeDefKind}
use Rattle.wit_data.specs.declared.types.Type_.{Type_}
use Rattle.wit_script_lines.specs.declared.signature.Signature.{Signature}
use Rattle.wit_script_lines.specs.declared.signature.TypedName.{TypedName}
use Rattle.wit_script_lines.specs.declared.type_text.TypeText.{TypeText}
use Rattle.std.specs.Map.{lookup}
use Rattle.wit_data.specs.Entries.{item_type}
use Rattle.wit_data.specs.facts.WorldKeyFacts.{same_key}
use Rattle.wit_data.specs.declared.world.IncludeName.{IncludeName}
use Rattle.wit_data.specs.declared.world.WorldInclude.{WorldInclude}
use Rattle.wit_data.specs.declared.world.WorldItem.{WorldItem}
use Rattle.wit_data.specs.declared.world.WorldKey.{WorldKey}
use Rattle.wit_script_package.specs.Making.{each_made, field_made, function_made, kind_made, with_root}
use Rattle.wit_script_package.specs.Role.{is_plain, member_role}
use Rattle.wit_script_package.specs.Lines.{interface_entry, key_of}
use Rattle.wit_script_package.specs.Draft.{longest_file}
use Rattle.wit_data.specs.declared.function.FunctionKind.TheVariants as role
use Rattle.wit_data.specs.declared.types.TypeDefKind.TheVariants as kind
use Rattle.wit_data.specs.declared.world.WorldItem.TheVariants as item
use Rattle.wit_data.specs.declared.types.Type_.TheVariants as type
use Rattle.wit_data.specs.declared.world.WorldKey.TheVariants as key

-- one more export of the world at a place, under a key that it doesn't export yet
abbrev pub with_export_at : Draft → WorldKey → WorldItem → ℕ → Option Draft
with_export_at p k entry at =
    option_and_then (λ (world : World).
    if is_some (lookup (same_key k) world.exports) then None
    else Some (record p {
      worlds = slice_set p.worlds at
          (record world { exports = world.exports ++ (k, entry) ∷ [] });
    }))
    (slice_get p.worlds at)

-- one more function of the interface at a place, where it has no function of that name
abbrev pub with_function_at : Draft → Function → ℕ → Option Draft
with_function_at p f at =
    option_and_then (λ (interface : Interface).
    if is_some (lookup (bytes_eq f.name) interface.functions) then None
    else Some (record p {
      interfaces = slice_set p.interfaces at
          (record interface { functions = interface.functions ++ (f.name, f) ∷ [] });
    }))
    (slice_get p.interfaces at)

-- one more include of the world at a place
abbrev pub with_include_at : Draft → WorldInclude → ℕ → Option Draft
with_include_at p include_item at =
    option_map (λ (world : World).
    record p {
      worlds = slice_set p.worlds at
          (record world { includes = world.includes ++ include_item ∷ [] });
    })
    (slice_get p.worlds at)

-- the name of the next type in the interface at a place, where it has no type of that name
abbrev pub with_type_name : Draft → List ℕ → ℕ → Option Draft
with_type_name p name at =
    option_and_then (λ (interface : Interface).
    if is_some (lookup (bytes_eq name) interface.types) then None
    else Some (record p {
      interfaces = slice_set p.interfaces at
          (record interface { types = interface.types ++ (name, length p.types) ∷ [] });
    }))
    (slice_get p.interfaces at)

-- a line with its newline
abbrev pub with_newline : List ℕ → List ℕ
with_newline line = line ++ 10 ∷ []

-- the file with one more line
abbrev pub with_text : Draft → List ℕ → Draft
with_text p line = record p { contents = p.contents ++ with_newline line }

-- a source map of one file
abbrev pub one_file : List ℕ → List ℕ → Option Sources
one_file path contents =
    if nat_le (length contents) longest_file
    then Some (with_file (record { files = []; end = 0 }) path contents)
    else None

-- the package as a group of its own, with these sources
abbrev pub group_with : Draft → Sources → UnresolvedPackageGroup
group_with p sources = record {
  main = record {
    name = p.name;
    package_name_span = p.name_span;
    docs = record { contents = None };
    worlds = p.worlds;
    interfaces = p.interfaces;
    types = p.types;
    foreign_deps = p.foreign.deps;
    foreign_dep_spans = p.foreign.dep_spans;
    unknown_type_spans = p.foreign.type_spans;
    required_resource_types = p.required;
  };
  nested = [];
  source_map = sources;
}

-- `type NAME TYPE`
abbrev pub with_type_line : Draft → List ℕ → TypeText → LineContext → Option Draft
with_type_line p name text here =
    option_and_then (λ (made : TypeDefKind × Draft). with_named made.1 name made.0 here)
    (kind_made p text here)

-- `record NAME F:TYPE ..`
abbrev pub with_record : Draft → List ℕ → List TypedName → LineContext → Option Draft
with_record p name fields here =
    option_and_then
    (λ (made : List Field × Draft). with_named made.1 name (kind.Record made.0) here)
    (each_made (field_made here) fields p)

-- the type of this name in the interface that a path names
abbrev pub used_type : Draft → ParsedUsePath → List ℕ → Option ℕ
used_type p from name = option_and_then (type_at p name) (interface_named p from)

-- `use PATH NAME NEW`
abbrev pub with_use : Draft → ParsedUsePath → List ℕ → List ℕ → LineContext → Option Draft
with_use p from name new here =
    option_and_then (λ (id : ℕ). with_named p new (kind.Type_ (type.Id id)) here)
    (used_type p from name)

-- `func SIG`
abbrev pub with_function_line : Draft → Signature → LineContext → Option Draft
with_function_line p said here =
    option_and_then (λ (made : Function × Draft). with_function made.1 made.0)
    (function_made p said here)

-- `import PATH`, `import LABEL=PATH`, `export PATH`, `export LABEL=PATH`
abbrev pub with_import_line : Draft → Option (List ℕ) → ParsedUsePath → LineContext → Option Draft
with_import_line p label from here =
    option_and_then (λ (id : ℕ). with_import p (key_of label id) (interface_entry id here))
    (interface_named p from)

abbrev pub with_export_line : Draft → Option (List ℕ) → ParsedUsePath → LineContext → Option Draft
with_export_line p label from here =
    option_and_then (λ (id : ℕ). with_export p (key_of label id) (interface_entry id here))
    (interface_named p from)

-- `import-func SIG`, `export-func SIG`
abbrev pub with_imported_function : Draft → Signature → LineContext → Option Draft
with_imported_function p said here =
    option_and_then (λ (made : Function × Draft).
    with_import made.1 (key.Name made.0.name) (item.Function made.0))
    (function_made p said here)

abbrev pub with_exported_function : Draft → Signature → LineContext → Option Draft
with_exported_function p said here =
    option_and_then (λ (made : Function × Draft).
    with_export made.1 (key.Name made.0.name) (item.Function made.0))
    (function_made p said here)

-- `include PATH OLD=NEW ..`
abbrev pub include_item : ℕ → List IncludeName → LineContext → WorldInclude
include_item id names here =
    record { stability = here.gate; id = id; names = names; span = here.span }

abbrev pub with_include_line : Draft → ParsedUsePath → List IncludeName → LineContext → Option Draft
with_include_line p from names here =
    option_and_then (λ (id : ℕ). with_include p (include_item id names here)) (world_named p from)

abbrev pub with_root_at : Draft → OptionalSpan → ℕ → Option Draft
with_root_at p span root =
    option_and_then (λ (def : TypeDef). with_root p span root def.kind) (slice_get p.types root)

-- the function of a line, of these parts
abbrev pub function_with : List ℕ → FunctionKind → List Param → Option Type_ → LineContext
    → Function
function_with name does params answer here =
    record (new_function name does params answer) { stability = here.gate; span = here.span }

abbrev pub world_id_of : List Mention → Mention → ℕ
world_id_of ms m = position_or_len (same_item m) (first_worlds ms)

-- a foreign world: its name
abbrev pub foreign_world : Mention → World
foreign_world m = empty_world m.name (mentioned_at m)

-- the earlier type of this name in the interface into which lines go
abbrev pub interface_type : Draft → List ℕ → Option ℕ
interface_type p name = option_and_then (type_at p name) (open_interface p)

-- the type of this name among the imports of the world at a place
abbrev pub world_type_at : Draft → List ℕ → ℕ → Option ℕ
world_type_at p name at =
    option_and_then (λ (world : World).
    option_and_then item_type (lookup (same_key (key.Name name)) world.imports))
    (slice_get p.worlds at)

-- the earlier type of this name in the world into which lines go
abbrev pub world_type : Draft → List ℕ → Option ℕ
world_type p name = option_and_then (world_type_at p name) (open_world p)

-- what the name of a type names: a primitive, or else an earlier type
abbrev pub type_named : Draft → List ℕ → Option Type_
type_named p name = option_or (primitive_of name) (option_map type.Id (earlier p name))

-- the resource of a constructor: an earlier type
abbrev pub constructor_resource : Draft → List ℕ → Option ℕ
constructor_resource p rest = if is_plain rest then earlier p rest else None

-- what follows `[method]`
abbrev pub method_role : Draft → List ℕ → Option FunctionKind
method_role p rest = member_role role.MethodGetter role.MethodSetter role.Method p rest

-- what follows `[static]`
abbrev pub static_role : Draft → List ℕ → Option FunctionKind
static_role p rest = member_role role.StaticGetter role.StaticSetter role.Static p rest
