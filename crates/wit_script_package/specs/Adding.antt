-- What a line adds to the interfaces, worlds and types of a package.
use Rattle.std.specs.Prelude.{ℕ, List, [], ◌∷◌, ◌++◌, length, is_some, slice_get, slice_set, Option, Some, None, option_and_then, if◌then◌else◌, option_map, bytes_eq}
use Rattle.std.specs.Map.{lookup}
use Rattle.std.specs.Option.{option_map_or}
use Rattle.wit_data.specs.New.{new_interface, new_type, new_world}
use Rattle.wit_data.specs.declared.function.Function.{Function}
use Rattle.wit_data.specs.declared.interface.Interface.{Interface}
use Rattle.wit_data.specs.declared.types.TypeDef.{TypeDef}
use Rattle.wit_data.specs.declared.types.TypeDefKind.{TypeDefKind}
use Rattle.wit_data.specs.declared.types.TypeOwner.{TypeOwner}
use Rattle.wit_data.specs.declared.world.World.{World}
use Rattle.wit_data.specs.declared.world.WorldInclude.{WorldInclude}
use Rattle.wit_data.specs.declared.world.WorldItem.{WorldItem}
use Rattle.wit_data.specs.declared.world.WorldKey.{WorldKey}
use Rattle.wit_data.specs.declared.types.Type_.TheVariants as type
use Rattle.wit_data.specs.declared.types.TypeDefKind.TheVariants as kind
use Rattle.wit_data.specs.declared.types.TypeOwner.TheVariants as owner
use Rattle.wit_data.specs.declared.world.WorldItem.TheVariants as item
use Rattle.wit_data.specs.declared.world.WorldKey.TheVariants as key
use Rattle.wit_script_package.specs.Naming.{open_interface, open_world, same_key}
use Rattle.wit_script_package.specs.declared.draft.Draft.{Draft}
use Rattle.wit_script_package.specs.declared.draft.Scope.{Scope}
use Rattle.wit_script_package.specs.declared.draft.Scope.TheVariants as scope
use Rattle.wit_script_package.specs.declared.draft.LineContext.{LineContext}

-- an interface with nothing in it
abbrev pub empty_interface : List ℕ → LineContext → Interface
empty_interface name here =
    record (new_interface (Some name)) { stability = here.gate; span = here.span }

-- a world with nothing in it
abbrev pub empty_world : List ℕ → LineContext → World
empty_world name here = record (new_world name) { stability = here.gate; span = here.span }

-- one more interface, under a name that none has yet; the next lines go into it
abbrev pub with_interface : Draft → List ℕ → LineContext → Option Draft
with_interface p name here =
    if is_some (lookup (bytes_eq name) p.interface_ids) then None
    else Some (record p {
      interfaces = p.interfaces ++ empty_interface name here ∷ [];
      interface_ids = p.interface_ids ++ (name, length p.interfaces) ∷ [];
      scope = scope.Interface;
    })

-- one more world, under a name that none has yet; the next lines go into it
abbrev pub with_world : Draft → List ℕ → LineContext → Option Draft
with_world p name here =
    if is_some (lookup (bytes_eq name) p.world_ids) then None
    else Some (record p {
      worlds = p.worlds ++ empty_world name here ∷ [];
      world_ids = p.world_ids ++ (name, length p.worlds) ∷ [];
      scope = scope.World;
    })

-- a type with a name, or without one
abbrev pub type_with : Option (List ℕ) → TypeDefKind → TypeOwner → LineContext → TypeDef
type_with name made owned here =
    record (new_type name made owned) { stability = here.gate; span = here.span }

-- the type at the end of the aliases of a type of this kind, which stands at this place
abbrev pub root_of : Draft → ℕ → TypeDefKind → ℕ
root_of p id (kind.Type_ (type.Id target)) =
    option_map_or (λ root. root) (slice_get p.roots target) id
root_of p id other = id

-- one more type
abbrev pub with_type : Draft → TypeDef → Draft
with_type p def =
    record p
    { types = p.types ++ def ∷ []; roots = p.roots ++ root_of p (length p.types) def.kind ∷ [] }

-- one more type of the interface at a place, where it has no type of that name
abbrev pub with_interface_type : Draft → List ℕ → TypeDefKind → LineContext → ℕ → Option Draft
with_interface_type p name made here at =
    option_map (λ (q : Draft). with_type q (type_with (Some name) made (owner.Interface at) here))
    (option_and_then (λ (interface : Interface).
    if is_some (lookup (bytes_eq name) interface.types) then None
    else Some (record p {
      interfaces = slice_set p.interfaces at
          (record interface { types = interface.types ++ (name, length p.types) ∷ [] });
    }))
    (slice_get p.interfaces at))

-- one more import of the world at a place, under a key that it doesn't import yet
abbrev pub with_import_at : Draft → WorldKey → WorldItem → ℕ → Option Draft
with_import_at p k entry at =
    option_and_then (λ (world : World).
    if is_some (lookup (same_key k) world.imports) then None
    else Some (record p {
      worlds = slice_set p.worlds at
          (record world { imports = world.imports ++ (k, entry) ∷ [] });
    }))
    (slice_get p.worlds at)

-- one more import of the world into which lines go
abbrev pub with_import : Draft → WorldKey → WorldItem → Option Draft
with_import p k entry = option_and_then (with_import_at p k entry) (open_world p)

-- one more export of the world into which lines go, under a key that it doesn't export yet
abbrev pub with_export : Draft → WorldKey → WorldItem → Option Draft
with_export p k entry =
    option_and_then (λ at.
    option_and_then (λ (world : World).
    if is_some (lookup (same_key k) world.exports) then None
    else Some (record p {
      worlds = slice_set p.worlds at
          (record world { exports = world.exports ++ (k, entry) ∷ [] });
    }))
    (slice_get p.worlds at))
    (open_world p)

-- one more type of the world at a place: an import of it under its name
abbrev pub with_world_type : Draft → List ℕ → TypeDefKind → LineContext → ℕ → Option Draft
with_world_type p name made here at =
    option_map (λ (q : Draft). with_type q (type_with (Some name) made (owner.World at) here))
    (with_import_at p (key.Name name) (item.Type_ (length p.types) here.span) at)

-- one more type of the interface or the world into which lines go
abbrev pub with_named_in : Draft → Scope → List ℕ → TypeDefKind → LineContext → Option Draft
with_named_in p scope.Package name made here = None
with_named_in p scope.Interface name made here =
    option_and_then (with_interface_type p name made here) (open_interface p)
with_named_in p scope.World name made here =
    option_and_then (with_world_type p name made here) (open_world p)

abbrev pub with_named : Draft → List ℕ → TypeDefKind → LineContext → Option Draft
with_named p name made here = with_named_in p p.scope name made here

-- one more function of the interface into which lines go, where it has no function of that name
abbrev pub with_function : Draft → Function → Option Draft
with_function p f =
    option_and_then (λ at.
    option_and_then (λ (interface : Interface).
    if is_some (lookup (bytes_eq f.name) interface.functions) then None
    else Some (record p {
      interfaces = slice_set p.interfaces at
          (record interface { functions = interface.functions ++ (f.name, f) ∷ [] });
    }))
    (slice_get p.interfaces at))
    (open_interface p)

-- one more include of the world into which lines go
abbrev pub with_include : Draft → WorldInclude → Option Draft
with_include p include_item =
    option_and_then (λ at.
    option_map (λ (world : World).
    record p {
      worlds = slice_set p.worlds at
          (record world { includes = world.includes ++ include_item ∷ [] });
    })
    (slice_get p.worlds at))
    (open_world p)
