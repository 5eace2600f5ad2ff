-- The lists of a world whose keys and ids are in order.
use Rattle.std.specs.Prelude.{ℕ, ◌≡◌, ◌<◌, List, [], ◌∷◌}
use Rattle.std.specs.List.{AllByRecursion}
use Rattle.wit_data.specs.declared.types.TypeDef.{TypeDef}
use Rattle.wit_data.specs.declared.world.WorldItem.{WorldItem}
use Rattle.wit_data.specs.declared.world.WorldKey.{WorldKey}
use Rattle.wit_data.specs.declared.world.WorldKey.TheVariants.{Name, Interface}
use Rattle.wit_elaboration.specs.Entries.{Entry, Role, Instance, TypeUse, role_of, item_interface}

-- what stands under the key of an interface is that interface
abbrev pub IsUnderOwnKey : WorldKey → WorldItem → Type 0
IsUnderOwnKey (Interface i) item = item_interface item ≡ i ∷ []
IsUnderOwnKey (Name label) item = Unit {0}

-- the interface of an item, or of the type that it uses, is there
abbrev pub IsRoleInRange : ℕ → Role → Type 0
IsRoleInRange interfaces (Instance i) = i < interfaces
IsRoleInRange interfaces (TypeUse i) = i < interfaces
IsRoleInRange interfaces _ = Unit {0}

-- so it is of each entry
pub record AreSound (types : List TypeDef) (interfaces : ℕ) (entries : List Entry) : Type 0 where
  pub own_keys : AllByRecursion (λ (e : Entry). IsUnderOwnKey e.0 e.1) entries
  pub in_range : AllByRecursion (λ (e : Entry). IsRoleInRange interfaces (role_of types e.1))
      entries

-- and of both lists of a world
pub record HasSoundEntries (types : List TypeDef) (interfaces : ℕ)
    (imports exports : List Entry) : Type 0 where
  pub of_imports : AreSound types interfaces imports
  pub of_exports : AreSound types interfaces exports
