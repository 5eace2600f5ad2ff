-- The entries of a world: their keys, what they are to its elaboration, and their order by class.
use Rattle.std.specs.Prelude.{ℕ, Bool, true, false, List, [], ◌∷◌, ◌++◌, filter, nat_eq, if◌then◌else◌, flat_map}
use Rattle.std.specs.List.{list_any}
use Rattle.wit_data.specs.Function.{resource_of}
use Rattle.wit_data.specs.Uses.{type_interface_dep}
use Rattle.wit_data.specs.declared.types.TypeDef.{TypeDef}
use Rattle.wit_data.specs.declared.world.WorldItem.{WorldItem}
use Rattle.wit_data.specs.declared.world.WorldKey.{WorldKey}
use Rattle.wit_data.specs.declared.world.WorldItem.TheVariants as item
use Rattle.wit_data.specs.declared.world.WorldKey.TheVariants.{Name, Interface}
pub use Rattle.wit_data.specs.Entries.{Entry, item_interface}
pub use Rattle.wit_data.specs.facts.WorldKeyFacts.{same_key}
pub use Rattle.wit_elaboration.specs.declared.role.Role.{Role}
pub use Rattle.wit_elaboration.specs.declared.role.Role.TheVariants.{Instance, TypeUse, TypeDefinition, FreeFunction, ResourceFunction}
use Rattle.std.specs.Option.{option_map_or}

-- ---- keys

-- the interface that a key names: none where it is a label
abbrev pub key_interface : WorldKey → List ℕ
key_interface (Name label) = []
key_interface (Interface i) = i ∷ []

-- the interfaces that stand in a list under their own keys
abbrev pub keyed_interfaces : List Entry → List ℕ
keyed_interfaces entries = flat_map (λ (e : Entry). key_interface e.0) entries

-- the entries whose keys are not among those seen, of each key the first
abbrev pub fresh_entries : List WorldKey → List Entry → List Entry
fresh_entries seen [] = []
fresh_entries seen (e ∷ es) =
    if list_any (same_key e.0) seen then fresh_entries seen es
    else e ∷ fresh_entries (seen ++ e.0 ∷ []) es

-- ---- items

-- is the item an interface?
abbrev pub is_instance : WorldItem → Bool
is_instance (item.Interface i stability docs span external_id) = true
is_instance (item.Function function) = false
is_instance (item.Type_ id span) = false

-- what an item is to elaboration. A type is a use where it is another name of a type that an interface owns, else the
-- world defines it
abbrev pub role_of : List TypeDef → WorldItem → Role
role_of types (item.Interface i stability docs span external_id) = Instance i
role_of types (item.Function function) =
    option_map_or (λ resource. ResourceFunction) (resource_of function.kind) FreeFunction
role_of types (item.Type_ id span) =
    option_map_or TypeUse (type_interface_dep types id) TypeDefinition

-- ---- classes: interfaces, type uses, type definitions, free functions, functions of resources
-- Source: the order in which `elaborate_world` of wit-parser 0.263.0 sorts imports.

abbrev pub elaboration_class : Role → ℕ
elaboration_class (Instance i) = 0
elaboration_class (TypeUse i) = 1
elaboration_class TypeDefinition = 2
elaboration_class FreeFunction = 3
elaboration_class ResourceFunction = 4

-- the entries sorted by class, those of one class in their order
abbrev pub by_class : List TypeDef → List Entry → List Entry
by_class types entries =
    flat_map (λ class.
    filter (λ (e : Entry). nat_eq (elaboration_class (role_of types e.1)) class) entries)
    (0 ∷ 1 ∷ 2 ∷ 3 ∷ 4 ∷ [])
