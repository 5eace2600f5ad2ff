-- Validity by thing: what a valid graph asks of one type, one interface, one entry, one world, one package,
-- and the few facts that are about all of it. The shape of a package asks the same of its types, interfaces
-- and worlds, so it can cite the same records (all but `known`, the tables and `canonical`).
use Rattle.std.specs.Prelude.{◌≡◌, ◌≢◌, ℕ, List, [], None, IfSome}
use Rattle.wit_data.specs.Each.{Each, EachAt}
use Rattle.wit_data.specs.Entries.{Entry, IsExport, IsImport, ItemUsesOwn, StandOnce}
use Rattle.wit_data.specs.Ownership.{AliasesNamed, FunctionsUseOwn, IsListed, IsPlain, ListsOwn, NamesFunctions, RefersToOwn}
use Rattle.wit_names.specs.PackageName.{HasValidVersion}
use Rattle.wit_names.specs.UsePath.{IsKebabName}
use Rattle.wit_data.specs.Uses.{uses_of}
use Rattle.wit_data.specs.declared.interface.Interface.{Interface}
use Rattle.wit_data.specs.declared.types.TypeDef.{TypeDef}
use Rattle.wit_data.specs.declared.world.World.{World}
use Rattle.wit_data.specs.declared.types.TypeDefKind.TheVariants as kind
use Rattle.wit_elaboration.specs.Elaborated.{Elaborated}
use Rattle.wit_values.specs.Table.{HasDistinctKeys}
use Rattle.wit_elaboration.specs.Valid.{HasNoCycles, HasPackageNames, IsInTable, IsInterfaceOf, IsOfPackage, IsWorldInTable, IsWorldOf}
use Rattle.wit_graph_data.specs.declared.graph.Graph.{Graph}
use Rattle.wit_graph_data.specs.declared.graph.Package.{Package}

-- type i is good: a type with an owner is listed there, its alias names what it may, a type without a name
-- is plain, and all else that it refers to is its owner's
pub record IsGoodType (types : List TypeDef) (interfaces : List Interface) (worlds : List World)
    (i : ℕ) (def : TypeDef) : Type 0 where
  pub listed : IsListed interfaces worlds i def.name def.owner
  pub alias : AliasesNamed types interfaces def
  pub unnamed : def.name ≡ None → IsPlain def.kind
  pub own : RefersToOwn types def

-- interface f is good: it lists types of its own and functions under their names, which refer to its types
pub record IsGoodInterface (types : List TypeDef) (f : ℕ) (interface : Interface) : Type 0 where
  pub name : IfSome interface.name IsKebabName
  pub own_types : ListsOwn types f interface
  pub functions : NamesFunctions interface
  pub own_functions : FunctionsUseOwn types f interface
  pub distinct_types : HasDistinctKeys interface.types
  pub distinct_functions : HasDistinctKeys interface.functions

-- an import of world w is good, where the world is of this package
pub record IsGoodImport (types : List TypeDef) (interfaces : List Interface) (w : ℕ) (world : World)
    (e : Entry) : Type 0 where
  pub is : IsImport interfaces types w e.0 e.1
  pub own : ItemUsesOwn types w e.1
  pub home : IsOfPackage interfaces world.package e.1

-- so is an export
pub record IsGoodExport (types : List TypeDef) (interfaces : List Interface) (w : ℕ) (world : World)
    (e : Entry) : Type 0 where
  pub is : IsExport interfaces e.0 e.1
  pub own : ItemUsesOwn types w e.1
  pub home : IsOfPackage interfaces world.package e.1

-- world w is good: its entries are
pub record IsGoodWorld (types : List TypeDef) (interfaces : List Interface) (w : ℕ)
    (world : World) : Type 0 where
  pub imports : Each (IsGoodImport types interfaces w world) world.imports
  pub exports : Each (IsGoodExport types interfaces w world) world.exports
  pub distinct_imports : HasDistinctKeys world.imports
  pub distinct_exports : HasDistinctKeys world.exports
  pub no_includes : world.includes ≡ []

-- package p is good: its tables hold its interfaces and worlds under their names
pub record IsGoodPackage (interfaces : List Interface) (worlds : List World) (p : ℕ)
    (home : Package) : Type 0 where
  pub interfaces_are : Each (λ (e : List ℕ × ℕ). IsInterfaceOf interfaces p e.0 e.1) home.interfaces
  pub worlds_are : Each (λ (e : List ℕ × ℕ). IsWorldOf worlds p e.0 e.1) home.worlds
  pub distinct_interfaces : HasDistinctKeys home.interfaces
  pub distinct_worlds : HasDistinctKeys home.worlds
  pub namespace : IsKebabName home.name.namespace
  pub name : IsKebabName home.name.name
  pub version : HasValidVersion home.name

-- each type, interface and world of the graph is good: so they are also while a package is added, when its tables
-- name worlds that are not finished
pub record HasGoodItems (g : Graph) : Type 0 where
  pub types : EachAt (IsGoodType g.types g.interfaces g.worlds) g.types
  pub known : Each (λ (def : TypeDef). def.kind ≢ kind.Unknown) g.types
  pub interfaces : EachAt (IsGoodInterface g.types) g.interfaces
  pub worlds : EachAt (IsGoodWorld g.types g.interfaces) g.worlds

-- each thing of the graph is good
pub record HasGoodThings (g : Graph) : Type 0 where
  pub types : EachAt (IsGoodType g.types g.interfaces g.worlds) g.types
  pub known : Each (λ (def : TypeDef). def.kind ≢ kind.Unknown) g.types
  pub interfaces : EachAt (IsGoodInterface g.types) g.interfaces
  pub worlds : EachAt (IsGoodWorld g.types g.interfaces) g.worlds
  pub packages : EachAt (IsGoodPackage g.interfaces g.worlds) g.packages
  pub interfaces_in_tables : EachAt (IsInTable g.packages) g.interfaces
  pub worlds_in_tables : EachAt (IsWorldInTable g.packages) g.worlds

-- what is about the whole graph
pub record IsGoodAsAWhole (g : Graph) : Type 0 where
  pub package_names : HasPackageNames g.packages g.package_names
  pub once : StandOnce g.interfaces g.worlds
  pub no_cycles : HasNoCycles g
  pub canonical : Each
      (λ (world : World). Elaborated g.types (uses_of g.types g.interfaces) world world) g.worlds
