-- What each line makes of a package.
use Rattle.std.specs.Prelude.{ℕ, List, length, Option, Some, None, option_and_then, [], ◌∷◌, ◌++◌}
use Rattle.wit_data.specs.declared.types.Field.{Field}
use Rattle.wit_data.specs.declared.function.Function.{Function}
use Rattle.wit_data.specs.declared.stability.Stability.{Stability}
use Rattle.wit_data.specs.declared.types.TypeDefKind.{TypeDefKind}
use Rattle.wit_data.specs.declared.world.WorldItem.{WorldItem}
use Rattle.wit_data.specs.declared.world.WorldKey.{WorldKey}
use Rattle.wit_data.specs.declared.types.Type_.TheVariants as type
use Rattle.wit_data.specs.declared.types.TypeDefKind.TheVariants as kind
use Rattle.wit_data.specs.declared.world.WorldItem.TheVariants as item
use Rattle.wit_data.specs.declared.world.WorldKey.TheVariants as key
use Rattle.wit_script_lines.specs.declared.package_line.PackageLine.{PackageLine}
use Rattle.wit_script_lines.specs.declared.package_line.PackageLine.TheVariants as says
use Rattle.wit_script_package.specs.Adding.{with_export, with_function, with_import, with_include, with_interface, with_named, with_world}
use Rattle.wit_script_package.specs.Draft.{span_after}
use Rattle.wit_script_package.specs.Making.{each_made, field_made, function_made, kind_made}
use Rattle.wit_script_package.specs.Naming.{OptionalSpan, interface_named, world_named, type_at}
use Rattle.wit_script_package.specs.declared.draft.Draft.{Draft}
use Rattle.wit_script_package.specs.declared.draft.LineContext.{LineContext}

-- a label, or else the interface itself
abbrev pub key_of : Option (List ℕ) → ℕ → WorldKey
key_of None id = key.Interface id
key_of (Some label) id = key.Name label

-- the entry of an interface
abbrev pub interface_entry : ℕ → LineContext → WorldItem
interface_entry id here = item.Interface id here.gate (record { contents = None }) here.span None

-- what a line says, added, where it has this gate and stands here
abbrev pub with_gated_line : Draft → PackageLine → LineContext → Option Draft
with_gated_line p (says.Interface name) here = with_interface p name here
with_gated_line p (says.World name) here = with_world p name here
with_gated_line p (says.Type_ name text) here =
    option_and_then (λ (made : TypeDefKind × Draft). with_named made.1 name made.0 here)
    (kind_made p text here)
with_gated_line p (says.Record name fields) here =
    option_and_then
    (λ (made : List Field × Draft). with_named made.1 name (kind.Record made.0) here)
    (each_made (field_made here) fields p)
with_gated_line p (says.Resource name) here = with_named p name kind.Resource here
with_gated_line p (says.Use from name new) here =
    option_and_then (λ (id : ℕ). with_named p new (kind.Type_ (type.Id id)) here)
    (option_and_then (type_at p name) (interface_named p from))
with_gated_line p (says.Function said) here =
    option_and_then (λ (made : Function × Draft). with_function made.1 made.0)
    (function_made p said here)
with_gated_line p (says.Import label from) here =
    option_and_then (λ (id : ℕ). with_import p (key_of label id) (interface_entry id here))
    (interface_named p from)
with_gated_line p (says.Export label from) here =
    option_and_then (λ (id : ℕ). with_export p (key_of label id) (interface_entry id here))
    (interface_named p from)
with_gated_line p (says.ImportFunction said) here =
    option_and_then (λ (made : Function × Draft).
    with_import made.1 (key.Name made.0.name) (item.Function made.0))
    (function_made p said here)
with_gated_line p (says.ExportFunction said) here =
    option_and_then (λ (made : Function × Draft).
    with_export made.1 (key.Name made.0.name) (item.Function made.0))
    (function_made p said here)
with_gated_line p (says.Include from names) here =
    option_and_then (λ (id : ℕ).
    with_include p (record { stability = here.gate; id = id; names = names; span = here.span }))
    (world_named p from)

-- a line, added: its text to the file, with a newline, and what it says
abbrev pub with_line : Draft → PackageLine → Stability → List ℕ → Option Draft
with_line p said gate line =
    option_and_then (λ (span : OptionalSpan).
    with_gated_line (record p { contents = p.contents ++ (line ++ 10 ∷ []) }) said
    (record { gate = gate; span = span }))
    (span_after (length p.contents) line)
