-- What an unresolved package knows of other packages: interfaces and worlds by name alone, and types
-- of kind `Unknown`.
use Rattle.std.specs.Prelude.{◌≡◌, ◌≢◌, ℕ, ◌<◌, ◌≤◌, List, [], ◌∷◌, Some, length, nat_eq, IsSome, flat_map}
use Rattle.std.specs.List.{IsDistinct}
use Rattle.wit_data.specs.Each.{Each, SomeAt}
use Rattle.wit_data.specs.declared.unresolved.AstItem.{AstItem}
use Rattle.wit_data.specs.declared.interface.Interface.{Interface}
use Rattle.wit_names.specs.declared.package_name.PackageName.{PackageName}
use Rattle.wit_data.specs.declared.stability.Stability.{Stability}
use Rattle.wit_data.specs.declared.types.TypeDef.{TypeDef}
use Rattle.wit_data.specs.declared.types.TypeOwner.{TypeOwner}
use Rattle.wit_data.specs.declared.world.World.{World}
use Rattle.wit_data.specs.declared.types.TypeOwner.TheVariants as owner
use Rattle.wit_data.specs.declared.unresolved.AstItem.TheVariants as item

-- a foreign interface or world: its name, its id, and the gates under which it is named
abbrev pub ForeignItem : Type 0
ForeignItem = List ℕ × (AstItem × List Stability)

-- what is named of other packages, under the name of each package
abbrev pub ForeignItems : Type 0
ForeignItems = List (PackageName × List ForeignItem)

-- the interface that an item is
abbrev pub interface_id : AstItem → List ℕ
interface_id (item.Interface id) = id ∷ []
interface_id (item.World id) = []

-- the world that an item is
abbrev pub world_id : AstItem → List ℕ
world_id (item.Interface id) = []
world_id (item.World id) = id ∷ []

-- the interfaces that are named of other packages
abbrev pub foreign_interfaces : ForeignItems → List ℕ
foreign_interfaces deps =
    flat_map (λ (e : PackageName × List ForeignItem).
    flat_map (λ (named : ForeignItem). interface_id named.1.0) e.1) deps

-- the worlds that are named of other packages
abbrev pub foreign_worlds : ForeignItems → List ℕ
foreign_worlds deps =
    flat_map (λ (e : PackageName × List ForeignItem).
    flat_map (λ (named : ForeignItem). world_id named.1.0) e.1) deps

-- ids name the first things of a list of so many things, each once
pub record AreFirst (ids : List ℕ) (count : ℕ) : Type 0 where
  pub once : IsDistinct nat_eq ids
  pub first : Each (λ id. id < length ids) ids
  pub there : length ids ≤ count

-- the item is there under the name by which it is named, and bare: an interface has no functions, a world no entries and
-- no includes
abbrev pub IsNameOnly : List Interface → List World → List ℕ → AstItem → Type 0
IsNameOnly interfaces worlds name (item.Interface id) =
    SomeAt interfaces id
    (λ (interface : Interface). (interface.name ≡ Some name) × (interface.functions ≡ []))
IsNameOnly interfaces worlds name (item.World id) =
    SomeAt worlds id (λ (world : World).
    (world.name ≡ name) × (world.imports ≡ []) × (world.exports ≡ []) × (world.includes ≡ []))

-- the item is there and bare, and some gate says under which it is named
abbrev pub IsForeign : List Interface → List World → ForeignItem → Type 0
IsForeign interfaces worlds named =
    IsNameOnly interfaces worlds named.0 named.1.0 × (named.1.1 ≢ [])

-- a type of a foreign interface, that is of one of the first `foreign` interfaces, has a name
abbrev pub IsForeignType : ℕ → TypeDef → Type 0
IsForeignType foreign def = IsSome def.name × IsForeignOwner def.owner
  where
    IsForeignOwner : TypeOwner → Type 0
    IsForeignOwner (owner.Interface i) = i < foreign
    IsForeignOwner (owner.World w) = ⊥
    IsForeignOwner owner.None = ⊥
