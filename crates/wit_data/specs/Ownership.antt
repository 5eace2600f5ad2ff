-- Which types belong to which interface or world, and what its types and functions may refer to.
use Rattle.std.specs.Prelude.{◌≡◌, ℕ, Bool, true, false, ◌<◌, ◌⊎◌, List, [], ◌∷◌, map, length, Option, Some, None, IsSome, IfSome, Contains, is_some, if◌then◌else◌, flat_map}
use Rattle.wit_digraph.specs.Relation.{Reaches}
use Rattle.wit_data.specs.Each.{Each, SomeAt}
use Rattle.wit_data.specs.Kind.{referred, referred_in, function_references}
use Rattle.wit_data.specs.Uses.{alias_target}
use Rattle.wit_data.specs.declared.function.Function.{Function}
use Rattle.wit_data.specs.declared.interface.Interface.{Interface}
use Rattle.wit_data.specs.declared.kind.PartRole.{PartRole}
use Rattle.wit_data.specs.declared.types.TypeDef.{TypeDef}
use Rattle.wit_data.specs.declared.types.TypeDefKind.{TypeDefKind}
use Rattle.wit_data.specs.declared.types.TypeOwner.{TypeOwner}
use Rattle.wit_data.specs.declared.world.World.{World}
use Rattle.wit_data.specs.declared.world.WorldItem.{WorldItem}
use Rattle.wit_data.specs.declared.world.WorldKey.{WorldKey}
use Rattle.wit_data.specs.declared.kind.PartRole.TheVariants.{Target}
use Rattle.wit_data.specs.declared.types.TypeDefKind.TheVariants as kind
use Rattle.wit_data.specs.declared.types.TypeOwner.TheVariants as owner
use Rattle.wit_data.specs.declared.world.WorldItem.TheVariants as item
use Rattle.wit_data.specs.declared.world.WorldKey.TheVariants as key

-- ---- lists of types

-- the type that an entry of a world's imports lists, under its name
abbrev pub entry_type : WorldKey → WorldItem → List (List ℕ × ℕ)
entry_type (key.Name name) (item.Type_ id span) = (name, id) ∷ []
entry_type _ _ = []

-- the types that a world lists, each under its name
abbrev pub world_types : World → List (List ℕ × ℕ)
world_types world = flat_map (λ (e : WorldKey × WorldItem). entry_type e.0 e.1) world.imports

-- a type with an owner has a name and is listed by its owner under it, one without has none
abbrev pub IsListed : List Interface → List World → ℕ → Option (List ℕ) → TypeOwner → Type 0
IsListed interfaces worlds i name owner.None = name ≡ None
IsListed interfaces worlds i None (owner.Interface f) = ⊥
IsListed interfaces worlds i (Some name) (owner.Interface f) =
    SomeAt interfaces f (λ (interface : Interface). Contains interface.types (name, i))
IsListed interfaces worlds i None (owner.World w) = ⊥
IsListed interfaces worlds i (Some name) (owner.World w) =
    SomeAt worlds w (λ (world : World). Contains (world_types world) (name, i))

-- there is such a type, with this owner and this name
abbrev pub IsTypeOf : List TypeDef → TypeOwner → List ℕ → ℕ → Type 0
IsTypeOf types by name id =
    SomeAt types id (λ (def : TypeDef). (def.name ≡ Some name) × (def.owner ≡ by))

-- what an interface lists are types of its own, each under its name
abbrev pub ListsOwn : List TypeDef → ℕ → Interface → Type 0
ListsOwn types f interface =
    Each (λ (e : List ℕ × ℕ). IsTypeOf types (owner.Interface f) e.0 e.1) interface.types

-- each function of an interface stands under its name
abbrev pub NamesFunctions : Interface → Type 0
NamesFunctions interface = Each (λ (e : List ℕ × Function). e.1.name ≡ e.0) interface.functions

-- ---- references

-- the interface is there and has a name
abbrev pub IsNamed : List Interface → ℕ → Type 0
IsNamed interfaces f = SomeAt interfaces f (λ (interface : Interface). IsSome interface.name)

-- the owner is an interface with a name
abbrev pub IsNamedInterface : List Interface → TypeOwner → Type 0
IsNamedInterface interfaces (owner.Interface f) = IsNamed interfaces f
IsNamedInterface interfaces _ = ⊥

-- an alias of a type names a named type of its own owner or of an interface with a name
abbrev pub AliasesNamed : List TypeDef → List Interface → TypeDef → Type 0
AliasesNamed types interfaces def =
    IfSome (alias_target def.kind) (λ target.
    SomeAt types target (λ (named : TypeDef).
    IsSome named.name
    × ((named.owner ≡ def.owner) ⊎ IsNamedInterface interfaces named.owner)))

-- neither an alias nor a resource
abbrev pub IsPlain : TypeDefKind → Type 0
IsPlain (kind.Type_ ty) = ⊥
IsPlain kind.Resource = ⊥
IsPlain _ = Unit {0}

-- through unnamed types, as adjacency lists: list i has what type i refers to if it has no name, and nothing if it has one
abbrev pub through_unnamed : List TypeDef → List (List ℕ)
through_unnamed types =
    map (λ (def : TypeDef). if is_some def.name then [] else referred def.kind) types

-- type id is, or refers through unnamed types to, a named type of this owner
abbrev pub NamesThroughUnnamed : List TypeDef → ℕ → TypeOwner → Type 0
NamesThroughUnnamed types id by =
    (named : ℕ) × Reaches (through_unnamed types) id named
    × SomeAt types named (λ (def : TypeDef). IsSome def.name × (def.owner ≡ by))

-- it is there, and no named type that it is or refers to through unnamed types is of another owner
pub record IsOwn (types : List TypeDef) (by : TypeOwner) (id : ℕ) : Type 0 where
  pub there : id < length types
  pub only : (other : TypeOwner) → NamesThroughUnnamed types id other → other ≡ by

-- a part of any role but that of what an alias names
abbrev pub is_no_target : PartRole → Bool
is_no_target Target = false
is_no_target _ = true

-- a named type refers to its owner's types alone, other than as an alias
abbrev pub RefersToOwn : List TypeDef → TypeDef → Type 0
RefersToOwn types def =
    IsSome def.name → Each (IsOwn types def.owner) (referred_in is_no_target def.kind)

-- a function refers to its owner's types alone
abbrev pub UsesOwn : List TypeDef → TypeOwner → Function → Type 0
UsesOwn types by f = Each (IsOwn types by) (function_references f)

-- each function of an interface refers to the interface's types alone
abbrev pub FunctionsUseOwn : List TypeDef → ℕ → Interface → Type 0
FunctionsUseOwn types f interface =
    Each (λ (e : List ℕ × Function). UsesOwn types (owner.Interface f) e.1) interface.functions
