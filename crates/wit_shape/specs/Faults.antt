-- Where an unresolved package lacks its shape: the first clause of the shape that it breaks, in the order in which the
-- definition of the shape lists them, and the first thing that breaks it, in the order of the package's lists.
use Rattle.std.specs.Prelude.{◌≡◌, ◌↔◌, ℕ, ◌<◌, ◌≤◌, ◌+◌, ◌⊎◌, List, [], ◌∷◌, Option, Some, None, length, filter, map, nat_lt, slice_get, take, bytes_eq, Contains, IfSome}
use Rattle.std.specs.List.{IsDistinct}
use Rattle.wit_digraph.specs.Relation.{IsAcyclic}
use Rattle.wit_data.specs.Each.{Each, EachAt, SomeAt}
use Rattle.wit_data.specs.Entries.{Entry, IsExport, IsImport, ItemUsesOwn, StandOnce, interfaces_in_worlds, is_unnamed}
use Rattle.wit_data.specs.Foreign.{AreFirst, ForeignItem, IsForeign, IsForeignType, foreign_interfaces, foreign_worlds}
use Rattle.wit_data.specs.Kind.{referred}
use Rattle.wit_data.specs.Ownership.{AliasesNamed, IsListed, IsPlain, IsTypeOf, RefersToOwn, UsesOwn}
use Rattle.wit_data.specs.Shape.{interface_names, world_names}
use Rattle.wit_data.specs.Uses.{uses_of}
use Rattle.wit_names.specs.PackageName.{HasValidVersion}
use Rattle.wit_names.specs.UsePath.{IsKebabName}
use Rattle.wit_shape.specs.First.{AtFirst, AtFirstId, Finds, FindsAt, FindsFirst, FindsWithin}
use Rattle.wit_data.specs.declared.function.Function.{Function}
use Rattle.wit_data.specs.declared.interface.Interface.{Interface}
use Rattle.wit_data.specs.declared.types.TypeDef.{TypeDef}
use Rattle.wit_data.specs.declared.unresolved.UnresolvedPackage.{UnresolvedPackage}
use Rattle.wit_data.specs.declared.world.World.{World}
use Rattle.wit_data.specs.declared.world.WorldInclude.{WorldInclude}
use Rattle.wit_names.specs.declared.package_name.PackageName.{PackageName}
use Rattle.wit_shape.specs.declared.clause.ShapeClause.{ShapeClause}
use Rattle.wit_shape.specs.declared.fault.ShapeFault.{ShapeFault}
use Rattle.wit_shape.specs.declared.place.ShapePlace.{ShapePlace}
use Rattle.wit_data.specs.declared.types.TypeDefKind.TheVariants as kind
use Rattle.wit_data.specs.declared.types.TypeOwner.TheVariants as owner
use Rattle.wit_shape.specs.declared.clause.ShapeClause.TheVariants as clause
use Rattle.wit_shape.specs.declared.place.ShapePlace.TheVariants as place

-- the clauses, in the order in which `IsShaped` and its parts list them
abbrev pub clauses : List ShapeClause
clauses =
    clause.UnplacedInterfaces ∷ clause.UnplacedWorlds
    ∷ clause.ForeignSpans ∷ clause.ForeignInterfaces ∷ clause.ForeignWorlds ∷ clause.ForeignBare
    ∷ clause.UnknownFirst ∷ clause.UnknownForeign ∷ clause.UnknownAlone ∷ clause.UnknownRequired
    ∷ clause.NamesNamespace ∷ clause.NamesOwn ∷ clause.NamesInterfaces ∷ clause.NamesWorlds
    ∷ clause.NamesVersion ∷ clause.NamesInterfacesDiffer ∷ clause.NamesWorldsDiffer
    ∷ clause.OwnersListed ∷ clause.OwnersOwnTypes ∷ clause.OwnersFunctions
    ∷ clause.ReferencesEarlier ∷ clause.ReferencesAliases ∷ clause.ReferencesUnnamed
    ∷ clause.OwnTypes ∷ clause.OwnFunctions ∷ clause.OwnImports ∷ clause.OwnExports
    ∷ clause.WorldsImports ∷ clause.WorldsExports ∷ clause.WorldsOnce ∷ clause.WorldsIncludes
    ∷ clause.Uses ∷ []

-- a stands before b among them
abbrev pub IsBefore : ShapeClause → ShapeClause → Type 0
IsBefore a b =
    (i j : ℕ) × ((i < j) × (slice_get clauses i ≡ Some a) × (slice_get clauses j ≡ Some b))

-- how many interfaces, worlds and types of a package are of other packages
abbrev pub foreign_interface_count : UnresolvedPackage → ℕ
foreign_interface_count p = length (foreign_interfaces p.foreign_deps)

abbrev pub foreign_world_count : UnresolvedPackage → ℕ
foreign_world_count p = length (foreign_worlds p.foreign_deps)

abbrev pub unknown_count : UnresolvedPackage → ℕ
unknown_count p = length p.unknown_type_spans

-- the interfaces without names that worlds import and export, in order
abbrev pub unnamed_in_worlds : List Interface → List World → List ℕ
unnamed_in_worlds interfaces worlds = filter (is_unnamed interfaces) (interfaces_in_worlds worlds)

-- the id is below the number of ids and that of things, and none of the ids before it
abbrev pub IsNewFirst : List ℕ → ℕ → ℕ → ℕ → Type 0
IsNewFirst ids count i id = (id < length ids) × (id < count) × (Contains (take i ids) id → ⊥)

-- nothing where the ids name the first things of so many, each once, else the thing of the first id that doesn't
abbrev pub FindsMisplaced : {A : Type 0} → (ℕ → A) → List ℕ → ℕ → Option A → Type 0
FindsMisplaced place ids count =
    Finds (AreFirst ids count) (AtFirstId place (IsNewFirst ids count) ids)

-- nothing where no interface without a name stands in two places, else the first that stands in a second one
abbrev pub FindsAgain : List Interface → List World → Option ShapePlace → Type 0
FindsAgain interfaces worlds =
    Finds (StandOnce interfaces worlds)
    (AtFirstId place.Interface
    (λ i id. Contains (take i (unnamed_in_worlds interfaces worlds)) id → ⊥)
    (unnamed_in_worlds interfaces worlds))

-- a type is of kind `Unknown` exactly if it is one of the first
abbrev pub IsUnknownBelow : ℕ → ℕ → TypeDef → Type 0
IsUnknownBelow unknown i def = (def.kind ≡ kind.Unknown) ↔ (i < unknown)

-- there are more spans than types; or, where there aren't, the first type that is of kind `Unknown` and past the spans, or
-- of another kind and not past them
abbrev pub UnknownBreaks : ℕ → List TypeDef → ShapePlace → Type 0
UnknownBreaks unknown types at =
    ((length types < unknown) × (at ≡ place.UnknownTypeSpans))
    ⊎ ((unknown ≤ length types) × AtFirst place.Type_ (IsUnknownBelow unknown) types at)

-- no interface, no world before it has its name, those of other packages aside
abbrev pub IsNewName : ℕ → List Interface → ℕ → Interface → Type 0
IsNewName foreign interfaces i interface =
    IfSome interface.name (λ name. Contains (interface_names foreign (take i interfaces)) name → ⊥)

abbrev pub IsNewWorld : ℕ → List World → ℕ → World → Type 0
IsNewWorld foreign worlds w world = Contains (world_names foreign (take w worlds)) world.name → ⊥

-- what each of the first n nodes uses of them
abbrev pub among_first : List (List ℕ) → ℕ → List (List ℕ)
among_first uses n = map (λ (row : List ℕ). filter (λ j. nat_lt j n) row) (take n uses)

-- node i is the first with which the first nodes lead, by uses among them, from one of them back to it
pub record IsFirstOnCycle (uses : List (List ℕ)) (i : ℕ) : Type 0 where
  pub there : i < length uses
  pub before : IsAcyclic (among_first uses i)
  pub closes : IsAcyclic (among_first uses (i + 1)) → ⊥

-- the place is that of this node
abbrev pub AtFirstOnCycle : {A : Type 0} → (ℕ → A) → List (List ℕ) → A → Type 0
AtFirstOnCycle place uses at = (i : ℕ) × (IsFirstOnCycle uses i × (at ≡ place i))

-- The table of clauses. A row says what a search finds: nothing where the package keeps the clause, which is what the
-- field of this name of the part of `IsShaped` says; else the first thing that breaks it. Uses have a place only where
-- they close a cycle: that each is of an interface of the package, the clauses before have seen.
abbrev pub Tells : UnresolvedPackage → ShapeClause → Option ShapePlace → Type 0
Tells p clause.UnplacedInterfaces =
    FindsFirst place.Interface (λ _ (interface : Interface). interface.package ≡ None) p.interfaces
Tells p clause.UnplacedWorlds =
    FindsFirst place.World (λ _ (world : World). world.package ≡ None) p.worlds
Tells p clause.ForeignSpans =
    FindsAt place.ForeignDepSpans (length p.foreign_dep_spans ≡ length p.foreign_deps)
Tells p clause.ForeignInterfaces =
    FindsMisplaced place.Interface (foreign_interfaces p.foreign_deps) (length p.interfaces)
Tells p clause.ForeignWorlds =
    FindsMisplaced place.World (foreign_worlds p.foreign_deps) (length p.worlds)
Tells p clause.ForeignBare =
    FindsWithin place.ForeignItem
    (λ _ (e : PackageName × List ForeignItem). IsForeign p.interfaces p.worlds)
    (λ (e : PackageName × List ForeignItem). e.1) p.foreign_deps
Tells p clause.UnknownFirst =
    Finds ((unknown_count p ≤ length p.types) × EachAt (IsUnknownBelow (unknown_count p)) p.types)
    (UnknownBreaks (unknown_count p) p.types)
Tells p clause.UnknownForeign =
    FindsFirst place.Type_
    (λ i def. i < unknown_count p → IsForeignType (foreign_interface_count p) def) p.types
Tells p clause.UnknownAlone =
    FindsWithin place.InterfaceType
    (λ i (interface : Interface) (e : List ℕ × ℕ).
    i < foreign_interface_count p → e.1 < unknown_count p)
    (λ (interface : Interface). interface.types) p.interfaces
Tells p clause.UnknownRequired =
    FindsFirst place.RequiredResource
    (λ _ (r : ℕ × Option (ℕ × ℕ)). SomeAt p.types r.0 (λ (def : TypeDef). def.kind ≡ kind.Unknown))
    p.required_resource_types
Tells p clause.NamesNamespace = FindsAt place.Name (IsKebabName p.name.namespace)
Tells p clause.NamesOwn = FindsAt place.Name (IsKebabName p.name.name)
Tells p clause.NamesInterfaces =
    FindsFirst place.Interface
    (λ _ (interface : Interface). IfSome interface.name IsKebabName) p.interfaces
Tells p clause.NamesWorlds =
    FindsFirst place.World (λ _ (world : World). IsKebabName world.name) p.worlds
Tells p clause.NamesVersion = FindsAt place.Name (HasValidVersion p.name)
Tells p clause.NamesInterfacesDiffer =
    Finds (IsDistinct bytes_eq (interface_names (foreign_interface_count p) p.interfaces))
    (AtFirst place.Interface (IsNewName (foreign_interface_count p) p.interfaces) p.interfaces)
Tells p clause.NamesWorldsDiffer =
    Finds (IsDistinct bytes_eq (world_names (foreign_world_count p) p.worlds))
    (AtFirst place.World (IsNewWorld (foreign_world_count p) p.worlds) p.worlds)
Tells p clause.OwnersListed =
    FindsFirst place.Type_
    (λ i (def : TypeDef). IsListed p.interfaces p.worlds i def.name def.owner) p.types
Tells p clause.OwnersOwnTypes =
    FindsWithin place.InterfaceType
    (λ f (interface : Interface) (e : List ℕ × ℕ). IsTypeOf p.types (owner.Interface f) e.0 e.1)
    (λ (interface : Interface). interface.types) p.interfaces
Tells p clause.OwnersFunctions =
    FindsWithin place.Function (λ _ (interface : Interface) (e : List ℕ × Function). e.1.name ≡ e.0)
    (λ (interface : Interface). interface.functions) p.interfaces
Tells p clause.ReferencesEarlier =
    FindsFirst place.Type_ (λ i (def : TypeDef). Each (λ id. id < i) (referred def.kind)) p.types
Tells p clause.ReferencesAliases =
    FindsFirst place.Type_ (λ _. AliasesNamed p.types p.interfaces) p.types
Tells p clause.ReferencesUnnamed =
    FindsFirst place.Type_ (λ _ (def : TypeDef). (def.name ≡ None) → IsPlain def.kind) p.types
Tells p clause.OwnTypes = FindsFirst place.Type_ (λ _. RefersToOwn p.types) p.types
Tells p clause.OwnFunctions =
    FindsWithin place.Function
    (λ f (interface : Interface) (e : List ℕ × Function). UsesOwn p.types (owner.Interface f) e.1)
    (λ (interface : Interface). interface.functions) p.interfaces
Tells p clause.OwnImports =
    FindsWithin place.Import (λ w (world : World) (e : Entry). ItemUsesOwn p.types w e.1)
    (λ (world : World). world.imports) p.worlds
Tells p clause.OwnExports =
    FindsWithin place.Export (λ w (world : World) (e : Entry). ItemUsesOwn p.types w e.1)
    (λ (world : World). world.exports) p.worlds
Tells p clause.WorldsImports =
    FindsWithin place.Import
    (λ w (world : World) (e : Entry). IsImport p.interfaces p.types w e.0 e.1)
    (λ (world : World). world.imports) p.worlds
Tells p clause.WorldsExports =
    FindsWithin place.Export (λ _ (world : World) (e : Entry). IsExport p.interfaces e.0 e.1)
    (λ (world : World). world.exports) p.worlds
Tells p clause.WorldsOnce = FindsAgain p.interfaces p.worlds
Tells p clause.WorldsIncludes =
    FindsWithin place.Include (λ w (world : World) (include : WorldInclude). include.id < w)
    (λ (world : World). world.includes) p.worlds
Tells p clause.Uses =
    Finds (IsAcyclic (uses_of p.types p.interfaces))
    (AtFirstOnCycle place.Interface (uses_of p.types p.interfaces))

-- the package keeps the clause, or breaks it first at this place
abbrev pub Holds : UnresolvedPackage → ShapeClause → Type 0
Holds p c = Tells p c None

abbrev pub BreaksAt : UnresolvedPackage → ShapeClause → ShapePlace → Type 0
BreaksAt p c at = Tells p c (Some at)

-- the package keeps each clause before this one
abbrev pub KeepsBefore : UnresolvedPackage → ShapeClause → Type 0
KeepsBefore p c = (other : ShapeClause) → IsBefore other c → Holds p other

-- the package keeps each clause before that of the fault, which it breaks at the fault's place
pub record IsFirstFault (p : UnresolvedPackage) (fault : ShapeFault) : Type 0 where
  pub before : KeepsBefore p fault.clause
  pub breaks : BreaksAt p fault.clause fault.place
