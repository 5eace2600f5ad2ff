-- Where the things of a grown graph come from.
--
-- A source is a graph (or what comes in, seen as one), with the maps under which its things go into the target, and
-- what of it is selected. What is selected *stands* in the target: at its place, under its name, with its owner. A
-- thing of the target is *carried* from a source if it refers to nothing but what the old thing refers to, at its
-- place. An image is carried, a thing that stays is, and so is an alias that is transformed to another named type.
--
-- Adding a package: two sources, the graph under `identity`, all of it; the package, its lists cut to what is active,
-- under its maps, foreign things going to those of the graph. An include: one source more, the graph under the maps of
-- the copies, of which the copied things and all that is named are selected. A merge: the graph under `identity`, the
-- other graph under the map of the merge. Semver merging: the graph under `identity`.
use Rattle.std.specs.Prelude.{◌≡◌, ◌≢◌, ◌⊎◌, ◌<◌, ℕ, Bool, true, List, length, None, Some, Contains, IsSome, slice_get, map, option_map}
use Rattle.wit_data.specs.Each.{Each, SomeAt}
use Rattle.wit_data.specs.Entries.{Entry}
use Rattle.wit_data.specs.Ownership.{IsNamedInterface, IsPlain, world_types}
use Rattle.wit_data.specs.Kind.{function_references, referred}
use Rattle.wit_data.specs.Uses.{alias_target}
use Rattle.wit_data.specs.declared.function.Function.{Function}
use Rattle.wit_data.specs.declared.interface.Interface.{Interface}
use Rattle.wit_data.specs.declared.types.TypeDef.{TypeDef}
use Rattle.wit_data.specs.declared.types.TypeOwner.{TypeOwner}
use Rattle.wit_data.specs.declared.world.World.{World}
use Rattle.wit_data.specs.declared.world.WorldItem.{WorldItem}
use Rattle.wit_data.specs.declared.types.Handle.TheVariants.{Own}
use Rattle.wit_data.specs.declared.types.TypeDefKind.TheVariants as kind
use Rattle.wit_data.specs.declared.types.TypeOwner.TheVariants as owner
use Rattle.wit_data.specs.declared.world.WorldItem.TheVariants as item
use Rattle.wit_graph_data.specs.declared.graph.Graph.{Graph}
use Rattle.wit_graph_theory.specs.facts.Good.{IsGoodExport, IsGoodImport, IsGoodInterface, IsGoodType}
use Rattle.wit_remap_spec.specs.Image.{Maps, name_image, owner_image}
use Rattle.wit_graph_theory.specs.facts.Referred.{RefersUnder}
use Rattle.wit_data.specs.steps.Parts.{parts}

pub record Source : Type 0 where
  pub graph : Graph
  pub maps : Maps
  -- which ids are selected
  pub types : ℕ → Bool
  pub interfaces : ℕ → Bool
  pub worlds : ℕ → Bool

-- ---- what is selected

abbrev pub OwnerIsActive : Source → TypeOwner → Type 0
OwnerIsActive s (owner.Interface f) = s.interfaces f ≡ true
OwnerIsActive s (owner.World w) = s.worlds w ≡ true
OwnerIsActive s owner.None = Unit {0}

-- ids of types that are all selected
abbrev pub TakePart : Source → List ℕ → Type 0
TakePart s ids = (t : ℕ) → Contains ids t → s.types t ≡ true

-- the interface of an item and the types that its function refers to
abbrev pub ItemIsActive : Source → WorldItem → Type 0
ItemIsActive s (item.Interface f stability docs span external_id) = s.interfaces f ≡ true
ItemIsActive s (item.Function f) = TakePart s (function_references f)
ItemIsActive s (item.Type_ t span) = s.types t ≡ true

-- what is selected is there, and refers to what is selected
pub record IsClosed (s : Source) : Type 0 where
  pub in_range : (t : ℕ) → s.types t ≡ true → t < length s.graph.types
  pub interfaces_in_range : (f : ℕ) → s.interfaces f ≡ true → f < length s.graph.interfaces
  pub references : (t : ℕ) (def : TypeDef) → slice_get s.graph.types t ≡ Some def → s.types t ≡ true
      → TakePart s (referred def.kind)
  pub owners : (t : ℕ) (def : TypeDef) → slice_get s.graph.types t ≡ Some def → s.types t ≡ true
      → OwnerIsActive s def.owner
  pub functions : (f : ℕ) (interface : Interface) (e : List ℕ × Function)
      → slice_get s.graph.interfaces f ≡ Some interface → s.interfaces f ≡ true
      → Contains interface.functions e → TakePart s (function_references e.1)
  pub imports : (w : ℕ) (world : World) (e : Entry) → slice_get s.graph.worlds w ≡ Some world
      → s.worlds w ≡ true → Contains world.imports e → ItemIsActive s e.1
  pub exports : (w : ℕ) (world : World) (e : Entry) → slice_get s.graph.worlds w ≡ Some world
      → s.worlds w ≡ true → Contains world.exports e → ItemIsActive s e.1

-- what is selected is good
pub record IsGoodSource (s : Source) : Type 0 where
  pub closed : IsClosed s
  pub types : (t : ℕ) (def : TypeDef) → slice_get s.graph.types t ≡ Some def → s.types t ≡ true
      → IsGoodType s.graph.types s.graph.interfaces s.graph.worlds t def
  pub interfaces : (f : ℕ) (interface : Interface) → slice_get s.graph.interfaces f ≡ Some interface
      → s.interfaces f ≡ true → IsGoodInterface s.graph.types f interface
  pub imports : (w : ℕ) (world : World) → slice_get s.graph.worlds w ≡ Some world
      → s.worlds w ≡ true
      → Each (IsGoodImport s.graph.types s.graph.interfaces w world) world.imports
  pub exports : (w : ℕ) (world : World) → slice_get s.graph.worlds w ≡ Some world
      → s.worlds w ≡ true
      → Each (IsGoodExport s.graph.types s.graph.interfaces w world) world.exports

-- ---- standing in a target

-- a type stands as another: under its name, with its owner; one without a name refers to the same things
pub record Stands (m : Maps) (old new : TypeDef) : Type 0 where
  pub name : new.name ≡ option_map (name_image m old.owner) old.name
  pub owner : new.owner ≡ owner_image m old.owner
  pub through : old.name ≡ None → RefersUnder m (referred old.kind) (referred new.kind)

-- an interface stands as another, which may list more: its types are listed under their names
pub record InterfaceStands (s : Source) (old new : Interface) : Type 0 where
  pub name : new.name ≡ old.name
  pub types : (name : List ℕ) (t : ℕ) → Contains old.types (name, t) → s.types t ≡ true
      → Contains new.types (name, s.maps.types t)
  pub home : old.name ≡ None → new.package ≡ s.maps.home old.package

-- so does a world; its types are listed under their labels
pub record WorldStands (s : Source) (w : ℕ) (old new : World) : Type 0 where
  pub types : (name : List ℕ) (t : ℕ) → Contains (world_types old) (name, t) → s.types t ≡ true
      → Contains (world_types new) (s.maps.labels w name, s.maps.types t)
  pub home : new.package ≡ s.maps.home old.package

-- type h is an unnamed `own` of type t
abbrev pub IsOwnOf : List TypeDef → ℕ → ℕ → Type 0
IsOwnOf types h t =
    SomeAt types h (λ (def : TypeDef).
    (def.name ≡ None) × (def.owner ≡ owner.None) × (def.kind ≡ kind.Handle (Own t)))

-- all that is selected stands in the target, and where values go is the image or, of a named type, an `own` of it
pub record Carries (s : Source) (g : Graph) : Type 0 where
  pub types : (t : ℕ) (def : TypeDef) → slice_get s.graph.types t ≡ Some def → s.types t ≡ true
      → SomeAt g.types (s.maps.types t) (Stands s.maps def)
  pub values : (t : ℕ) (def : TypeDef) → slice_get s.graph.types t ≡ Some def → s.types t ≡ true
      → (s.maps.values t ≡ s.maps.types t)
      ⊎ (IsSome def.name × IsOwnOf g.types (s.maps.values t) (s.maps.types t))
  pub interfaces : (f : ℕ) (interface : Interface) → slice_get s.graph.interfaces f ≡ Some interface
      → s.interfaces f ≡ true
      → SomeAt g.interfaces (s.maps.interfaces f) (InterfaceStands s interface)
  pub worlds : (w : ℕ) (world : World) → slice_get s.graph.worlds w ≡ Some world → s.worlds w ≡ true
      → SomeAt g.worlds (s.maps.worlds w) (WorldStands s w world)

-- ---- being carried

-- what an alias names is the image of what the old one named, or a named type of an interface with a name
abbrev pub AliasCarried : Source → Graph → TypeDef → TypeDef → Type 0
AliasCarried s g old new = (t' : ℕ) → alias_target new.kind ≡ Some t'
    → ((t : ℕ) × (alias_target old.kind ≡ Some t) × (t' ≡ s.maps.types t))
    ⊎ SomeAt g.types t'
    (λ (named : TypeDef). IsSome named.name × IsNamedInterface g.interfaces named.owner)

-- a type comes of another: it refers to nothing but the same things at their places
pub record IsCarriedType (s : Source) (g : Graph) (old new : TypeDef) : Type 0 where
  pub name : new.name ≡ option_map (name_image s.maps old.owner) old.name
  pub owner : new.owner ≡ owner_image s.maps old.owner
  pub parts : RefersUnder s.maps (parts old.kind) (parts new.kind)
  pub alias : AliasCarried s g old new
  pub plain : IsPlain old.kind → IsPlain new.kind
  pub known : new.kind ≢ kind.Unknown

-- so for a function, whose name is its owner's affair
abbrev pub IsCarriedFunction : Source → Function → Function → Type 0
IsCarriedFunction s old new = RefersUnder s.maps (function_references old) (function_references new)
