-- Parts of definitions, each under a name.
use Rattle.std.proofs.Common.{ℕ, Bool, List, [], ◌∷◌, ◌++◌, not, length, Option, Some, None, is_some, slice_set, if◌then◌else◌, bytes_eq}
use Rattle.std.specs.Map.{lookup}
use Rattle.wit_data.specs.declared.function.Function.{Function}
use Rattle.wit_data.specs.declared.interface.Interface.{Interface}
use Rattle.wit_data.specs.declared.world.World.{World}
use Rattle.wit_data.specs.declared.world.WorldItem.{WorldItem}
use Rattle.wit_data.specs.declared.world.WorldKey.{WorldKey}
use Rattle.wit_script_package.specs.Mention.{first_role, is_world, used_type_name}
use Rattle.wit_script_package.specs.Naming.{same_key}
use Rattle.wit_script_package.specs.declared.draft.Draft.{Draft}
use Rattle.wit_script_package.specs.declared.mention.Mention.{Mention}

-- of `with_type_name`: in this interface
abbrev pub with_type_name_in : Draft → List ℕ → ℕ → Interface → Option Draft
with_type_name_in p name at interface =
    if is_some (lookup (bytes_eq name) interface.types) then None
    else Some (record p { interfaces = slice_set p.interfaces at (record interface { types = interface.types ++ (name, length p.types) ∷ [] }) })

-- of `with_import_at`, `with_export_at`: in this world
abbrev pub with_import_in : Draft → WorldKey → WorldItem → ℕ → World → Option Draft
with_import_in p k entry at world =
    if is_some (lookup (same_key k) world.imports) then None
    else Some (record p { worlds = slice_set p.worlds at (record world { imports = world.imports ++ (k, entry) ∷ [] }) })

abbrev pub with_export_in : Draft → WorldKey → WorldItem → ℕ → World → Option Draft
with_export_in p k entry at world =
    if is_some (lookup (same_key k) world.exports) then None
    else Some (record p { worlds = slice_set p.worlds at (record world { exports = world.exports ++ (k, entry) ∷ [] }) })

-- of `with_function_at`: in this interface
abbrev pub with_function_in : Draft → Function → ℕ → Interface → Option Draft
with_function_in p f at interface =
    if is_some (lookup (bytes_eq f.name) interface.functions) then None
    else Some (record p { interfaces = slice_set p.interfaces at (record interface { functions = interface.functions ++ (f.name, f) ∷ [] }) })

-- of `first_types`: a mention uses a type
abbrev pub uses_type : Mention → Bool
uses_type m = is_some (used_type_name m.kind)

-- of `known_mentions`: the first line that names the item takes it for what this line does
abbrev pub agrees_on_role : List Mention → Mention → Bool
agrees_on_role ms m = if is_world m.kind then first_role m ms else not (first_role m ms)
