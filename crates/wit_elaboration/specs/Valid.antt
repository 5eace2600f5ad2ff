-- Valid graphs: what holds of every graph that a `Resolve` keeps. Each fact is stated over the lists that
-- it reads, so that a change of another list leaves it alone.
-- Source: `assert_valid` and the field documentation of wit-parser 0.263.0; the WIT page of the component
-- model (names of packages and interfaces, what may stand in a world).
use Rattle.std.specs.Prelude.{◌≡◌, ◌≢◌, ℕ, List, [], Option, None, Some, Contains, IfSome, IsSomeAnd}
use Rattle.wit_values.specs.Table.{HasDistinctKeys}
use Rattle.wit_digraph.specs.Relation.{IsAcyclic}
use Rattle.wit_data.specs.Each.{Each, EachAt, SomeAt}
use Rattle.wit_data.specs.Entries.{Entry, EntriesUseOwn, ExportsAreAllowed, ImportsAreAllowed, StandOnce}
use Rattle.wit_data.specs.Ownership.{AliasesNamed, FunctionsUseOwn, IsListed, IsPlain, ListsOwn, NamesFunctions, RefersToOwn}
use Rattle.wit_data.specs.Kind.{type_references}
use Rattle.wit_names.specs.PackageName.{HasValidVersion}
use Rattle.wit_names.specs.UsePath.{IsKebabName}
use Rattle.wit_data.specs.Uses.{uses_of}
use Rattle.wit_data.specs.declared.interface.Interface.{Interface}
use Rattle.wit_names.specs.declared.package_name.PackageName.{PackageName}
use Rattle.wit_data.specs.declared.types.TypeDef.{TypeDef}
use Rattle.wit_data.specs.declared.world.World.{World}
use Rattle.wit_data.specs.declared.world.WorldItem.{WorldItem}
use Rattle.wit_data.specs.declared.types.TypeDefKind.TheVariants as kind
use Rattle.wit_data.specs.declared.world.WorldItem.TheVariants as item
use Rattle.wit_elaboration.specs.Elaborated.{Elaborated}
use Rattle.wit_graph_data.specs.Queries.{package_uses}
use Rattle.wit_graph_data.specs.declared.graph.Graph.{Graph}
use Rattle.wit_graph_data.specs.declared.graph.Package.{Package}

-- ---- packages and their tables

-- the names list each package once, under its own name, and no two packages have one name
pub record HasPackageNames (packages : List Package) (names : List (PackageName × ℕ)) : Type 0 where
  pub own_name : Each
      (λ (e : PackageName × ℕ). SomeAt packages e.1 (λ (home : Package). home.name ≡ e.0)) names
  pub listed : EachAt (λ p (home : Package). Contains names (home.name, p)) packages
  pub distinct : HasDistinctKeys names

-- an interface has a package, and one with a name stands in the table of its package under it
abbrev pub IsInTable : List Package → ℕ → Interface → Type 0
IsInTable packages i interface =
    IsSomeAnd interface.package (λ p.
    SomeAt packages p (λ (home : Package).
    IfSome interface.name (λ name. Contains home.interfaces (name, i))))

-- a world has a package and stands in its table under its name
abbrev pub IsWorldInTable : List Package → ℕ → World → Type 0
IsWorldInTable packages w world =
    IsSomeAnd world.package
    (λ p. SomeAt packages p (λ (home : Package). Contains home.worlds (world.name, w)))

-- interface i is there, with this name and this package
abbrev pub IsInterfaceOf : List Interface → ℕ → List ℕ → ℕ → Type 0
IsInterfaceOf interfaces p name i =
    SomeAt interfaces i
    (λ (interface : Interface). (interface.name ≡ Some name) × (interface.package ≡ Some p))

-- world w is there, with this name and this package
abbrev pub IsWorldOf : List World → ℕ → List ℕ → ℕ → Type 0
IsWorldOf worlds p name w =
    SomeAt worlds w (λ (world : World). (world.name ≡ name) × (world.package ≡ Some p))

-- named interfaces and worlds stand in the tables of their packages under their names, and the tables hold
-- nothing else
pub record HasTables (packages : List Package) (interfaces : List Interface)
    (worlds : List World) : Type 0 where
  pub interfaces_listed : EachAt (IsInTable packages) interfaces
  pub worlds_listed : EachAt (IsWorldInTable packages) worlds
  pub interface_tables : EachAt (λ p (home : Package).
      Each (λ (e : List ℕ × ℕ). IsInterfaceOf interfaces p e.0 e.1) home.interfaces) packages
  pub world_tables : EachAt
      (λ p (home : Package). Each (λ (e : List ℕ × ℕ). IsWorldOf worlds p e.0 e.1) home.worlds)
      packages
  pub distinct_interfaces : Each (λ (home : Package). HasDistinctKeys home.interfaces) packages
  pub distinct_worlds : Each (λ (home : Package). HasDistinctKeys home.worlds) packages

-- namespaces and the names of packages and interfaces are kebab names (a transformed world may have any name), and
-- versions are those of SemVer 2.0.0
pub record HasValidNames (packages : List Package) (interfaces : List Interface) : Type 0 where
  pub namespaces : Each (λ (home : Package). IsKebabName home.name.namespace) packages
  pub package_names : Each (λ (home : Package). IsKebabName home.name.name) packages
  pub versions : Each (λ (home : Package). HasValidVersion home.name) packages
  pub interface_names : Each (λ (interface : Interface). IfSome interface.name IsKebabName)
      interfaces

-- ---- owners and what they list

-- which types and functions belong to which interface or world
pub record HasOwners (types : List TypeDef) (interfaces : List Interface)
    (worlds : List World) : Type 0 where
  -- a type with an owner has a name and is listed by its owner under it, one without has none
  pub listed : EachAt (λ i (def : TypeDef). IsListed interfaces worlds i def.name def.owner) types
  -- an interface lists types of its own, each under its name, and each function stands under its
  -- name
  pub own_types : EachAt (ListsOwn types) interfaces
  pub functions : Each NamesFunctions interfaces
  pub distinct_types : Each (λ (interface : Interface). HasDistinctKeys interface.types) interfaces
  pub distinct_functions : Each (λ (interface : Interface). HasDistinctKeys interface.functions)
      interfaces

-- ---- references

-- what types and functions refer to
pub record HasReferences (types : List TypeDef) (interfaces : List Interface) : Type 0 where
  -- an alias of a type names a named type of its own owner or of an interface with a name
  pub aliases : Each (AliasesNamed types interfaces) types
  -- a type without a name is neither an alias nor a resource
  pub unnamed : Each (λ (def : TypeDef). (def.name ≡ None) → IsPlain def.kind) types
  -- all else that an owner's types and functions refer to, seen through unnamed types, are its own types
  pub own_types : Each (RefersToOwn types) types
  pub own_functions : EachAt (FunctionsUseOwn types) interfaces

-- ---- worlds

-- an interface without a name that stands in a world is of the world's package
abbrev pub IsOfPackage : List Interface → Option ℕ → WorldItem → Type 0
IsOfPackage interfaces home (item.Interface id stability docs span external_id) =
    SomeAt interfaces id
    (λ (interface : Interface). (interface.name ≡ None) → interface.package ≡ home)
IsOfPackage interfaces home (item.Function function) = Unit {0}
IsOfPackage interfaces home (item.Type_ id span) = Unit {0}

-- what worlds hold
pub record HasWorlds (types : List TypeDef) (interfaces : List Interface)
    (worlds : List World) : Type 0 where
  -- the key of an interface holds that interface, which has a name; a label holds a function of
  -- that name,
  -- an interface or, among the imports, a type of the world
  pub imports : EachAt (ImportsAreAllowed interfaces types) worlds
  pub exports : Each (ExportsAreAllowed interfaces) worlds
  -- functions refer to the world's own types
  pub imported_functions : EachAt (λ w (world : World). EntriesUseOwn types w world.imports) worlds
  pub exported_functions : EachAt (λ w (world : World). EntriesUseOwn types w world.exports) worlds
  -- an interface without a name stands in one place at most, in a world of its own package
  pub once : StandOnce interfaces worlds
  pub own_imports : Each (λ (world : World).
      Each (λ (e : Entry). IsOfPackage interfaces world.package e.1) world.imports) worlds
  pub own_exports : Each (λ (world : World).
      Each (λ (e : Entry). IsOfPackage interfaces world.package e.1) world.exports) worlds
  -- includes have become entries
  pub no_includes : Each (λ (world : World). world.includes ≡ []) worlds
  pub distinct_imports : Each (λ (world : World). HasDistinctKeys world.imports) worlds
  pub distinct_exports : Each (λ (world : World). HasDistinctKeys world.exports) worlds

-- ---- the whole

-- ids, keys, owners and aliases are as they should be
pub record IsWellFormed (g : Graph) : Type 0 where
  pub package_names : HasPackageNames g.packages g.package_names
  pub tables : HasTables g.packages g.interfaces g.worlds
  pub owners : HasOwners g.types g.interfaces g.worlds
  pub references : HasReferences g.types g.interfaces
  pub worlds : HasWorlds g.types g.interfaces g.worlds

-- no interface uses itself, no type refers to itself and no package depends on itself, through whatever others
pub record HasNoCycles (g : Graph) : Type 0 where
  pub uses : IsAcyclic (uses_of g.types g.interfaces)
  pub types : IsAcyclic (type_references g.types)
  pub packages : IsAcyclic (package_uses g.types g.interfaces g.worlds g.packages)

-- a valid graph
pub record IsValid (g : Graph) : Type 0 where
  pub well_formed : IsWellFormed g
  pub names : HasValidNames g.packages g.interfaces
  -- each type's kind is known
  pub known : Each (λ (def : TypeDef). def.kind ≢ kind.Unknown) g.types
  pub no_cycles : HasNoCycles g
  -- each world is canonical: its own elaboration
  pub canonical : Each
      (λ (world : World). Elaborated g.types (uses_of g.types g.interfaces) world world) g.worlds
