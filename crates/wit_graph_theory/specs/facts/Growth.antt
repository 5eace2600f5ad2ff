-- Growth by ranks: what was there stays in front, and a thing of a source that goes behind it is there in
-- full, and refers to things of smaller rank. A rank is a number for each thing of a source: of a package
-- the place of the type, of a graph the length of its walk. (Merging and semver merging don't grow so: there
-- a search for cycles answers at run time.)
use Rattle.std.specs.Prelude.{◌≡◌, ℕ, ◌<◌, ◌≤◌, true, List, Some, Contains, length, slice_get, option_map}
use Rattle.wit_data.specs.Each.{Each, SomeAt}
use Rattle.wit_data.specs.Entries.{Entry}
use Rattle.wit_data.specs.Kind.{referred}
use Rattle.wit_data.specs.Uses.{alias_target, interface_uses, type_interface_dep}
use Rattle.wit_data.specs.declared.interface.Interface.{Interface}
use Rattle.wit_data.specs.declared.types.TypeDef.{TypeDef}
use Rattle.wit_data.specs.declared.world.World.{World}
use Rattle.wit_data.specs.declared.types.TypeOwner.TheVariants as owner
use Rattle.wit_data.specs.declared.world.WorldItem.TheVariants as item
use Rattle.wit_graph_data.specs.Queries.{other_package, package_interfaces}
use Rattle.wit_graph_data.specs.declared.graph.Graph.{Graph}
use Rattle.wit_graph_data.specs.declared.graph.Package.{Package}
use Rattle.wit_graph_theory.specs.facts.Referred.{RefersUnder}
use Rattle.wit_graph_theory.specs.steps.Sources.{Source}
use Rattle.wit_graph_data.specs.steps.Parts.{package_needs}

-- the types of a graph grow behind old ones
pub record TypesGrow {K : Type 0} (at : K → Source) (rank : K → ℕ → ℕ) (old : List TypeDef)
    (g : Graph) : Type 0 where
  pub longer : length old ≤ length g.types
  pub kept : (i : ℕ) (def : TypeDef) → i < length old → slice_get g.types i ≡ Some def
      → slice_get old i ≡ Some def
  pub carried : (k : K) (t : ℕ) (def : TypeDef) → slice_get (at k).graph.types t ≡ Some def
      → (at k).types t ≡ true → length old ≤ (at k).maps.types t
      → SomeAt g.types ((at k).maps.types t)
      (λ (new : TypeDef). RefersUnder (at k).maps (referred def.kind) (referred new.kind))
  pub falls : (k : K) (t u : ℕ) (def : TypeDef) → slice_get (at k).graph.types t ≡ Some def
      → (at k).types t ≡ true → length old ≤ (at k).maps.types t
      → Contains (referred def.kind) u → rank k u < rank k t

-- the interfaces of a graph grow behind those of an old one
pub record InterfacesGrow {K : Type 0} (at : K → Source) (rank : K → ℕ → ℕ) (old g : Graph) : Type 0
  where
    pub longer : length old.interfaces ≤ length g.interfaces
    pub kept : (i : ℕ) (interface : Interface) → i < length old.interfaces
        → slice_get g.interfaces i ≡ Some interface → slice_get old.interfaces i ≡ Some interface
    pub kept_types : (i : ℕ) (def : TypeDef) → i < length old.types → slice_get g.types i ≡ Some def
        → slice_get old.types i ≡ Some def
    -- a new one lists nothing but what its old one lists
    pub listed : (k : K) (f : ℕ) (interface : Interface)
        → slice_get (at k).graph.interfaces f ≡ Some interface → (at k).interfaces f ≡ true
        → length old.interfaces ≤ (at k).maps.interfaces f
        → SomeAt g.interfaces ((at k).maps.interfaces f) (λ (new : Interface).
        Each (λ (e : List ℕ × ℕ).
        (t : ℕ) × Contains interface.types (e.0, t) × ((at k).types t ≡ true)
        × (e.1 ≡ (at k).maps.types t)) new.types)
    -- and its types name as aliases the images of what they named
    pub aliases : (k : K) (f t : ℕ) (def : TypeDef) → slice_get (at k).graph.types t ≡ Some def
        → (at k).types t ≡ true → def.owner ≡ owner.Interface f
        → length old.interfaces ≤ (at k).maps.interfaces f
        → SomeAt g.types ((at k).maps.types t) (λ (new : TypeDef).
        alias_target new.kind ≡ option_map (at k).maps.types (alias_target def.kind))
    pub falls : (k : K) (f j : ℕ) (interface : Interface)
        → slice_get (at k).graph.interfaces f ≡ Some interface → (at k).interfaces f ≡ true
        → length old.interfaces ≤ (at k).maps.interfaces f
        → Contains (interface_uses (at k).graph.types interface) j → rank k j < rank k f

-- the packages of a graph grow behind those of an old one, and new ones use old ones alone
pub record PackagesGrow (old g : Graph) : Type 0 where
  pub longer : length old.packages ≤ length g.packages
  pub kept : (p : ℕ) (home : Package) → p < length old.packages → slice_get g.packages p ≡ Some home
      → slice_get old.packages p ≡ Some home
  -- what the tables of old packages hold is what it was
  pub interfaces : (p : ℕ) (home : Package) (e : List ℕ × ℕ) (interface : Interface)
      → slice_get old.packages p ≡ Some home → Contains home.interfaces e
      → slice_get g.interfaces e.1 ≡ Some interface → slice_get old.interfaces e.1 ≡ Some interface
  pub worlds : (p : ℕ) (home : Package) (e : List ℕ × ℕ) (world : World)
      → slice_get old.packages p ≡ Some home → Contains home.worlds e
      → slice_get g.worlds e.1 ≡ Some world → slice_get old.worlds e.1 ≡ Some world
  -- and uses what it used
  pub uses : (f : ℕ) (interface : Interface) (j : ℕ) → slice_get old.interfaces f ≡ Some interface →
      Contains (interface_uses g.types interface) j →
      Contains (interface_uses old.types interface) j
  pub imports : (w : ℕ) (world : World) (i : ℕ) → slice_get old.worlds w ≡ Some world → (e : Entry)
      → Contains world.imports e → (t : ℕ) (span : _) → e.1 ≡ item.Type_ t span
      → type_interface_dep g.types t ≡ Some i → type_interface_dep old.types t ≡ Some i
  pub exports : (w : ℕ) (world : World) (i : ℕ) → slice_get old.worlds w ≡ Some world → (e : Entry)
      → Contains world.exports e → (t : ℕ) (span : _) → e.1 ≡ item.Type_ t span
      → type_interface_dep g.types t ≡ Some i → type_interface_dep old.types t ≡ Some i
  pub others : (p q : ℕ) (home : Package) (i : ℕ) → slice_get old.packages p ≡ Some home
      → Contains (package_interfaces old.types old.interfaces old.worlds home) i
      → other_package g.interfaces p i ≡ Some q → other_package old.interfaces p i ≡ Some q
  pub new : (p q : ℕ) (home : Package) → length old.packages ≤ p
      → slice_get g.packages p ≡ Some home
      → Contains (package_needs g.types g.interfaces g.worlds p home) q → q < length old.packages
