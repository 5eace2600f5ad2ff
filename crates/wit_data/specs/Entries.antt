-- What worlds import, export and include.
use Rattle.std.specs.Prelude.{◌≡◌, ℕ, ◌<◌, Bool, false, List, [], ◌∷◌, ◌++◌, length, nat_eq, slice_get, not, is_some, filter, flat_map, if◌then◌else◌, Option, None, Some}
use Rattle.std.specs.List.{IsDistinct}
use Rattle.std.specs.Option.{option_map_or}
use Rattle.wit_data.specs.Each.{Each}
use Rattle.wit_data.specs.Ownership.{IsNamed, IsTypeOf, UsesOwn}
use Rattle.wit_data.specs.declared.interface.Interface.{Interface}
use Rattle.wit_data.specs.declared.types.TypeDef.{TypeDef}
use Rattle.wit_data.specs.declared.world.World.{World}
use Rattle.wit_data.specs.declared.world.WorldItem.{WorldItem}
use Rattle.wit_data.specs.declared.world.WorldKey.{WorldKey}
use Rattle.wit_data.specs.declared.types.TypeOwner.TheVariants as owner
use Rattle.wit_data.specs.declared.world.WorldItem.TheVariants as item
use Rattle.wit_data.specs.declared.world.WorldKey.TheVariants as key

-- an entry of a world
abbrev pub Entry : Type 0
Entry = WorldKey × WorldItem

-- the exports or the imports of a world
abbrev pub entries_of : Bool → World → List Entry
entries_of exported world = if exported then world.exports else world.imports

-- the key of an interface holds that interface, which has a name; a label holds an interface or the
-- function of that name
abbrev pub IsExport : List Interface → WorldKey → WorldItem → Type 0
IsExport interfaces (key.Interface f) (item.Interface id stability docs span external_id) =
    (id ≡ f) × IsNamed interfaces f
IsExport interfaces (key.Interface f) (item.Function function) = ⊥
IsExport interfaces (key.Interface f) (item.Type_ id span) = ⊥
IsExport interfaces (key.Name name) (item.Interface id stability docs span external_id) =
    id < length interfaces
IsExport interfaces (key.Name name) (item.Function function) = function.name ≡ name
IsExport interfaces (key.Name name) (item.Type_ id span) = ⊥

-- an import is as an export, or a type of world w under its name
abbrev pub IsImport : List Interface → List TypeDef → ℕ → WorldKey → WorldItem → Type 0
IsImport interfaces types w (key.Name name) (item.Type_ id span) =
    IsTypeOf types (owner.World w) name id
IsImport interfaces types w other held = IsExport interfaces other held

-- the function that an entry holds refers to types of world w alone
abbrev pub ItemUsesOwn : List TypeDef → ℕ → WorldItem → Type 0
ItemUsesOwn types w (item.Interface id stability docs span external_id) = Unit {0}
ItemUsesOwn types w (item.Function function) = UsesOwn types (owner.World w) function
ItemUsesOwn types w (item.Type_ id span) = Unit {0}

-- each import of a world may stand under its key
abbrev pub ImportsAreAllowed : List Interface → List TypeDef → ℕ → World → Type 0
ImportsAreAllowed interfaces types w world =
    Each (λ (e : Entry). IsImport interfaces types w e.0 e.1) world.imports

-- each export of a world may stand under its key
abbrev pub ExportsAreAllowed : List Interface → World → Type 0
ExportsAreAllowed interfaces world = Each (λ (e : Entry). IsExport interfaces e.0 e.1) world.exports

-- the functions among entries refer to types of world w alone
abbrev pub EntriesUseOwn : List TypeDef → ℕ → List Entry → Type 0
EntriesUseOwn types w entries = Each (λ (e : Entry). ItemUsesOwn types w e.1) entries

-- the interface that an item is
abbrev pub item_interface : WorldItem → List ℕ
item_interface (item.Interface id stability docs span external_id) = id ∷ []
item_interface (item.Function function) = []
item_interface (item.Type_ id span) = []

-- the type that an item is
abbrev pub item_type : WorldItem → Option ℕ
item_type (item.Type_ id span) = Some id
item_type _ = None

-- the interfaces that entries hold
abbrev pub interfaces_of_entries : List Entry → List ℕ
interfaces_of_entries entries = flat_map (λ (e : Entry). item_interface e.1) entries

-- the interfaces in all places of all worlds
abbrev pub interfaces_in_worlds : List World → List ℕ
interfaces_in_worlds worlds =
    flat_map (λ (world : World).
    interfaces_of_entries world.imports ++ interfaces_of_entries world.exports) worlds

-- the interface has no name
abbrev pub is_unnamed : List Interface → ℕ → Bool
is_unnamed interfaces f =
    option_map_or (λ (interface : Interface). not (is_some interface.name)) (slice_get interfaces f)
    false

-- no interface without a name stands in two places
abbrev pub StandOnce : List Interface → List World → Type 0
StandOnce interfaces worlds =
    IsDistinct nat_eq (filter (is_unnamed interfaces) (interfaces_in_worlds worlds))
