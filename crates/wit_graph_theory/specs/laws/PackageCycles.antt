-- Elaborating worlds makes no cycle of packages: what it adds to a world is reached by uses from what the world lists,
-- and the packages of these depend on one another already.
use Rattle.std.specs.Prelude.{◌≡◌, ◌⊎◌, ℕ, true, List, Some, Contains, slice_get}
use Rattle.wit_digraph.specs.Relation.{IsAcyclic, direct}
use Rattle.wit_data.specs.Each.{Each, EachAt}
use Rattle.wit_data.specs.Entries.{ExportsAreAllowed, ImportsAreAllowed, is_unnamed}
use Rattle.wit_data.specs.Ownership.{AliasesNamed}
use Rattle.wit_data.specs.Uses.{uses_of}
use Rattle.wit_data.specs.declared.interface.Interface.{Interface}
use Rattle.wit_data.specs.declared.types.TypeDef.{TypeDef}
use Rattle.wit_data.specs.declared.world.World.{World}
use Rattle.wit_elaboration.specs.Elaborated.{Elaborated}
use Rattle.wit_elaboration.specs.Entries.{Entry, keyed_interfaces, item_interface}
use Rattle.wit_graph_data.specs.Queries.{package_uses}
use Rattle.wit_elaboration.specs.Valid.{IsInTable}
use Rattle.wit_graph_data.specs.declared.graph.Package.{Package}

-- the world imports or exports interface j under its own key
abbrev pub ListsKey : World → ℕ → Type 0
ListsKey world j =
    Contains (keyed_interfaces world.imports) j ⊎ Contains (keyed_interfaces world.exports) j

-- what an interface without a name uses, the world in which it stands lists: such an interface is in no table, so
-- its uses count for no package
pub record ListsUses (interfaces : List Interface) (uses : List (List ℕ)) (world : World) : Type 0
  where
    pub imports : (e : Entry) (f j : ℕ) → Contains world.imports e → Contains (item_interface e.1) f
        → is_unnamed interfaces f ≡ true → Contains (direct uses f) j → ListsKey world j
    pub exports : (e : Entry) (f j : ℕ) → Contains world.exports e → Contains (item_interface e.1) f
        → is_unnamed interfaces f ≡ true → Contains (direct uses f) j → ListsKey world j

-- a world is elaborated from the one that was listed at its place
pub record IsElaboratedFrom (types : List TypeDef) (interfaces : List Interface)
    (listed : List World) (w : ℕ) (new : World) : Type 0 where
  pub old : World
  pub at : slice_get listed w ≡ Some old
  pub imports : ImportsAreAllowed interfaces types w old
  pub exports : ExportsAreAllowed interfaces old
  pub lists_uses : ListsUses interfaces (uses_of types interfaces) old
  pub elaborated : Elaborated types (uses_of types interfaces) old new

-- worlds are elaborated from those that were listed, in a graph of these types, interfaces and packages
pub record AreElaboratedFrom (types : List TypeDef) (interfaces : List Interface)
    (packages : List Package) (listed done : List World) : Type 0 where
  pub aliases : Each (AliasesNamed types interfaces) types
  pub uses : IsAcyclic (uses_of types interfaces)
  pub tables : EachAt (IsInTable packages) interfaces
  pub worlds : EachAt (IsElaboratedFrom types interfaces listed) done

-- packages that were acyclic with the worlds as they were listed are so with the elaborated ones
abbrev pub PackagesStayAcyclic : Type 0
PackagesStayAcyclic =
    (types : List TypeDef) (interfaces : List Interface) (packages : List Package)
    (listed done : List World) → AreElaboratedFrom types interfaces packages listed done
    → IsAcyclic (package_uses types interfaces listed packages)
    → IsAcyclic (package_uses types interfaces done packages)
