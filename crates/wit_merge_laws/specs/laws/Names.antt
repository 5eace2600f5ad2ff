-- The names of a graph: under which names it has things, whatever their ids. Interfaces and worlds have names in
-- packages, an interface without a name stands under a label of a world, types and functions have names in interfaces,
-- and worlds have labels and export interfaces.
-- Source: the names of the WIT page of the component model.
use Rattle.std.specs.Prelude.{◌≡◌, ◌↔◌, ℕ, Bool, true, List, [], ◌∷◌, Contains}
use Rattle.wit_data.specs.Each.{SomeAt}
use Rattle.wit_data.specs.Entries.{is_unnamed, item_interface, entries_of}
use Rattle.wit_data.specs.declared.function.Function.{Function}
use Rattle.wit_data.specs.declared.interface.Interface.{Interface}
use Rattle.wit_names.specs.declared.package_name.PackageName.{PackageName}
use Rattle.wit_data.specs.declared.world.World.{World}
use Rattle.wit_data.specs.declared.world.WorldItem.{WorldItem}
use Rattle.wit_data.specs.declared.world.WorldKey.TheVariants as key
use Rattle.wit_elaboration.specs.Valid.{IsInterfaceOf, IsWorldOf}
use Rattle.wit_graph_data.specs.declared.graph.Graph.{Graph}
use Rattle.wit_graph_data.specs.declared.graph.Package.{Package}

-- ---- things by their names

-- package p has this name
abbrev pub IsPackage : Graph → PackageName → ℕ → Type 0
IsPackage g home p = SomeAt g.packages p (λ (there : Package). there.name ≡ home)

-- interface i has this name, in the package of that one
pub record IsInterface (g : Graph) (home : PackageName) (name : List ℕ) (i : ℕ) : Type 0 where
  pub p : ℕ
  pub of : IsPackage g home p
  pub is : IsInterfaceOf g.interfaces p name i

-- so has world w
pub record IsWorld (g : Graph) (home : PackageName) (name : List ℕ) (w : ℕ) : Type 0 where
  pub p : ℕ
  pub of : IsPackage g home p
  pub is : IsWorldOf g.worlds p name w

-- a world has this item under a label of its exports or its imports
abbrev pub HasLabel : Graph → ℕ → Bool → List ℕ → WorldItem → Type 0
HasLabel g w exported label held =
    SomeAt g.worlds w
    (λ (world : World). Contains (entries_of exported world) (key.Name label, held))

-- a label of a world
pub record Label : Type 0 where
  pub home : PackageName
  pub world : List ℕ
  pub exported : Bool
  pub label : List ℕ

-- interface i has no name, and stands under the label
pub record IsUnnamedAt (g : Graph) (l : Label) (i : ℕ) : Type 0 where
  pub w : ℕ
  pub of : IsWorld g l.home l.world w
  pub held : WorldItem
  pub stands : HasLabel g w l.exported l.label held
  pub is : item_interface held ≡ i ∷ []
  pub unnamed : is_unnamed g.interfaces i ≡ true

-- ---- names

-- how an interface is named: by its name in a package, or by the label under which it stands
pub data InterfaceName : Type 0 where
  in_package : PackageName → List ℕ → InterfaceName
  at_label : Label → InterfaceName

abbrev pub IsNamedSo : Graph → InterfaceName → ℕ → Type 0
IsNamedSo g (in_package home name) i = IsInterface g home name i
IsNamedSo g (at_label l) i = IsUnnamedAt g l i

-- a name: of a package, of an interface, of a world, of a type or a function of an interface, of what a world has
-- under a label, and of an interface that a world exports under its own key
pub data Name : Type 0 where
  of_package : PackageName → Name
  of_interface : InterfaceName → Name
  of_world : PackageName → List ℕ → Name
  of_type : InterfaceName → List ℕ → Name
  of_function : InterfaceName → List ℕ → Name
  of_label : Label → Name
  of_export : PackageName → List ℕ → PackageName → List ℕ → Name

-- the graph has a thing of this name
abbrev pub HasName : Graph → Name → Type 0
HasName g (of_package home) = (p : ℕ) × IsPackage g home p
HasName g (of_interface name) = (i : ℕ) × IsNamedSo g name i
HasName g (of_world home name) = (w : ℕ) × IsWorld g home name w
HasName g (of_type owner name) =
    (i : ℕ) × (t : ℕ) × IsNamedSo g owner i
    × SomeAt g.interfaces i (λ (interface : Interface). Contains interface.types (name, t))
HasName g (of_function owner name) =
    (i : ℕ) × (f : Function) × IsNamedSo g owner i
    × SomeAt g.interfaces i (λ (interface : Interface). Contains interface.functions (name, f))
HasName g (of_label l) =
    (w : ℕ) × (held : WorldItem) × IsWorld g l.home l.world w × HasLabel g w l.exported l.label held
HasName g (of_export home world of name) =
    (w : ℕ) × (i : ℕ) × (held : WorldItem) × IsWorld g home world w × IsInterface g of name i
    × SomeAt g.worlds w (λ (there : World). Contains there.exports (key.Interface i, held))

-- two graphs have the same names
abbrev pub HaveSameNames : Graph → Graph → Type 0
HaveSameNames g h = (name : Name) → HasName g name ↔ HasName h name

-- ---- imports

-- a world imports an interface of this name under its own key
abbrev pub HasImport : Graph → PackageName → List ℕ → PackageName → List ℕ → Type 0
HasImport g home world of name =
    (w : ℕ) × (i : ℕ) × (held : WorldItem) × IsWorld g home world w × IsInterface g of name i
    × SomeAt g.worlds w (λ (there : World). Contains there.imports (key.Interface i, held))
