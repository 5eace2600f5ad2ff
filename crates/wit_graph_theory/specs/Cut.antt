-- A source that leaves things out: what comes in, with its lists cut to what is selected. A package with
-- gates is this source, and so is a graph of which everything is selected.
use Rattle.std.specs.Prelude.{◌≡◌, ℕ, ◌<◌, Bool, true, List, [], map, length, nat_lt, None, Some, Contains, slice_get}
use Rattle.wit_data.specs.Each.{Each, EachAt, SomeAt}
use Rattle.wit_data.specs.Entries.{Entry}
use Rattle.wit_data.specs.Ownership.{world_types}
use Rattle.wit_data.specs.Kind.{function_references, referred}
use Rattle.wit_data.specs.declared.function.Function.{Function}
use Rattle.wit_data.specs.declared.interface.Interface.{Interface}
use Rattle.wit_data.specs.declared.types.TypeDef.{TypeDef}
use Rattle.wit_data.specs.declared.types.TypeOwner.{TypeOwner}
use Rattle.wit_data.specs.declared.world.World.{World}
use Rattle.wit_data.specs.declared.world.WorldItem.{WorldItem}
use Rattle.wit_data.specs.declared.types.TypeOwner.TheVariants as owner
use Rattle.wit_data.specs.declared.world.WorldItem.TheVariants as item
use Rattle.wit_graph_data.specs.declared.graph.Graph.{Graph}
use Rattle.wit_graph_theory.specs.facts.Good.{IsGoodExport, IsGoodImport, IsGoodInterface, IsGoodType}
use Rattle.wit_remap_spec.specs.Image.{Maps}
use Rattle.wit_remap_spec.specs.Kept.{KeptIds, cut_interface, cut_world}
use Rattle.wit_graph_theory.specs.steps.Sources.{Source}
use Rattle.wit_remap_spec.specs.steps.Parts.{identity}

abbrev pub cut_source : KeptIds → List TypeDef → List Interface → List World → Maps → Source
cut_source kept types interfaces worlds m = record {
  graph = record {
    types = types;
    interfaces = map (cut_interface kept) interfaces;
    worlds = map (cut_world kept) worlds;
    packages = [];
    package_names = [];
  };
  maps = m;
  types = kept.types;
  interfaces = kept.interfaces;
  worlds = kept.worlds;
}

abbrev pub OwnerIsKept : KeptIds → TypeOwner → Type 0
OwnerIsKept kept (owner.Interface f) = kept.interfaces f ≡ true
OwnerIsKept kept (owner.World w) = kept.worlds w ≡ true
OwnerIsKept kept owner.None = Unit {0}

abbrev pub ItemIsKept : KeptIds → WorldItem → Type 0
ItemIsKept kept (item.Interface f stability docs span external_id) = kept.interfaces f ≡ true
ItemIsKept kept (item.Function f) = Each (λ t. kept.types t ≡ true) (function_references f)
ItemIsKept kept (item.Type_ t span) = kept.types t ≡ true

-- no kept thing names one that is left out: what the absence of the two reasons "an active item refers to an
-- excluded one" and "the owner of an active type is excluded" says
pub record IsClosedCut (kept : KeptIds) (types : List TypeDef) (interfaces : List Interface)
    (worlds : List World) : Type 0 where
  pub in_range : (t : ℕ) → kept.types t ≡ true → t < length types
  pub interfaces_in_range : (f : ℕ) → kept.interfaces f ≡ true → f < length interfaces
  pub references : EachAt (λ t (def : TypeDef).
      kept.types t ≡ true → Each (λ u. kept.types u ≡ true) (referred def.kind)) types
  pub owners : EachAt (λ t (def : TypeDef). kept.types t ≡ true → OwnerIsKept kept def.owner) types
  pub functions : EachAt (λ f (interface : Interface).
      kept.interfaces f ≡ true
      → Each (λ (e : List ℕ × Function).
      kept.functions e.1 ≡ true
      → Each (λ t. kept.types t ≡ true) (function_references e.1)) interface.functions)
      interfaces
  pub imports : EachAt (λ w (world : World).
      kept.worlds w ≡ true
      → Each (λ (e : Entry). kept.items e.1 ≡ true → ItemIsKept kept e.1) world.imports) worlds
  pub exports : EachAt (λ w (world : World).
      kept.worlds w ≡ true
      → Each (λ (e : Entry). kept.items e.1 ≡ true → ItemIsKept kept e.1) world.exports) worlds
  -- an entry that is a type is kept with the type
  pub type_items : (t : ℕ) (span : _) → kept.items (item.Type_ t span) ≡ kept.types t

-- what is kept is good, before the lists are cut (a shape says so, and a valid graph, and a partially linked graph of
-- which so many worlds are finished)
pub record IsGoodWhere (kept : KeptIds) (types : List TypeDef) (interfaces : List Interface)
    (worlds : List World) : Type 0 where
  pub types_are : EachAt
      (λ t (def : TypeDef). kept.types t ≡ true → IsGoodType types interfaces worlds t def) types
  pub interfaces_are : EachAt
      (λ f (interface : Interface). kept.interfaces f ≡ true → IsGoodInterface types f interface)
      interfaces
  pub imports_are : EachAt (λ w (world : World).
      kept.worlds w ≡ true → Each (IsGoodImport types interfaces w world) world.imports) worlds
  pub exports_are : EachAt (λ w (world : World).
      kept.worlds w ≡ true → Each (IsGoodExport types interfaces w world) world.exports) worlds

-- ---- a graph as a source of what grows from it

-- an entry that is a type is in range where the type is
abbrev pub item_in_range : ℕ → WorldItem → Bool
item_in_range types (item.Interface f stability docs span external_id) = true
item_in_range types (item.Function f) = true
item_in_range types (item.Type_ t span) = nat_lt t types

-- all of a graph is selected
abbrev pub kept_whole : Graph → KeptIds
kept_whole g = record {
  types = λ t. nat_lt t (length g.types);
  interfaces = λ f. nat_lt f (length g.interfaces);
  worlds = λ w. nat_lt w (length g.worlds);
  functions = λ f. true;
  items = item_in_range (length g.types);
}

-- all of a graph, under some maps
abbrev pub mapped_source : Graph → Maps → Source
mapped_source g m = cut_source (kept_whole g) g.types g.interfaces g.worlds m

-- a graph that stays where it is
abbrev pub graph_source : Graph → Source
graph_source g = mapped_source g identity

-- what was there stays at its ids; lists of interfaces may have grown (a merge appends types and functions),
-- and named types may have turned (semver merging turns aliases)
pub record StaysIn (old g : Graph) : Type 0 where
  pub types : (t : ℕ) (def : TypeDef) → slice_get old.types t ≡ Some def
      → SomeAt g.types t (λ (new : TypeDef).
      (new.name ≡ def.name) × (new.owner ≡ def.owner)
      × ((def.name ≡ None) → new.kind ≡ def.kind))
  pub interfaces : (f : ℕ) (interface : Interface) → slice_get old.interfaces f ≡ Some interface
      → SomeAt g.interfaces f (λ (new : Interface).
      (new.name ≡ interface.name) × (new.package ≡ interface.package)
      × ((e : List ℕ × ℕ) → Contains interface.types e → Contains new.types e))
  pub worlds : (w : ℕ) (world : World) → slice_get old.worlds w ≡ Some world
      → SomeAt g.worlds w (λ (new : World).
      (new.package ≡ world.package)
      × ((e : List ℕ × ℕ) → Contains (world_types world) e → Contains (world_types new) e))
