-- Spans that still end within the last position, 4294967295, when they are moved: those of types, interfaces and
-- entries, of whole worlds, and of all three together.
use Rattle.std.specs.Prelude.{ℕ, ◌+◌, ◌<◌, ◌^◌, List, ◌≡◌, Bool, [], ◌∷◌, ◌++◌, map, length, None, filter, Option, filter_map, option_map, bytes_eq}
use Rattle.wit_data.specs.Each.{Each}
use Rattle.wit_data.specs.Entries.{Entry}
use Rattle.wit_sources.specs.Span.{end_of}
use Rattle.wit_data.specs.declared.function.Function.{Function}
use Rattle.wit_data.specs.declared.interface.Interface.{Interface}
use Rattle.wit_data.specs.declared.function.Param.{Param}
use Rattle.wit_data.specs.declared.types.TypeDef.{TypeDef}
use Rattle.wit_data.specs.declared.types.TypeDefKind.{TypeDefKind}
use Rattle.wit_data.specs.declared.world.World.{World}
use Rattle.wit_data.specs.declared.world.WorldInclude.{WorldInclude}
use Rattle.wit_data.specs.declared.world.WorldItem.{WorldItem}
use Rattle.wit_data.specs.declared.world.WorldItem.TheVariants as item
use Rattle.wit_link_spec.specs.Gates.{OptionalSpan}
use Rattle.std.specs.List.{IsDistinct}
use Rattle.std.specs.Map.{keys_of, lookup}
use Rattle.wit_names.specs.PackageName.{same_package}
use Rattle.wit_data.specs.declared.unresolved.UnresolvedPackage.{UnresolvedPackage}
use Rattle.wit_data.specs.facts.WorldKeyFacts.{same_key}
use Rattle.wit_graph_data.specs.declared.graph.Graph.{Graph}
use Rattle.wit_graph_data.specs.declared.graph.Package.{Package}
use Rattle.wit_remap_spec.specs.Kept.{KeptIds, cut_interface, cut_world}
use Rattle.wit_remap_spec.specs.Image.{Maps, entry_image, interface_image, type_image, world_image}
use Rattle.wit_link_spec.specs.Addition.{Addition, addition_maps, own_worlds}
use Rattle.wit_remap_spec.specs.Selected.{selected, selected_with_index}
use Rattle.wit_link_spec.specs.declared.addition.NewIds.{NewIds}
use Rattle.wit_link_spec.specs.steps.NewThings.{is_new}
use Rattle.wit_remap.specs.steps.Parts.{kept_of}
use Rattle.wit_remap.specs.declared.part.Part.{Part}
use Rattle.wit_remap.specs.declared.worlds.UpdatedWorld.{UpdatedWorld}
use Rattle.wit_remap_spec.specs.steps.Parts.{kind_spans}
use Rattle.wit_link_spec.specs.steps.Parts.{active_includes, include_is_active}

-- the span, moved, still ends within the last position
abbrev pub Fits : ℕ → OptionalSpan → Type 0
Fits offset span = end_of span + offset < 2 ^ 32

-- of any condition on spans: those of the parts of a kind meet it
abbrev pub KindFits : (OptionalSpan → Type 0) → TypeDefKind → Type 0
KindFits P k = Each P (kind_spans k)

-- those of a type
pub record TypeFits (P : OptionalSpan → Type 0) (def : TypeDef) : Type 0 where
  pub own : P def.span
  pub parts : KindFits P def.kind

-- those of a function
pub record FunctionFits (P : OptionalSpan → Type 0) (f : Function) : Type 0 where
  pub own : P f.span
  pub params : Each (λ (p : Param). P p.span) f.params

-- those of an interface
pub record InterfaceFits (P : OptionalSpan → Type 0) (interface : Interface) : Type 0 where
  pub own : P interface.span
  pub functions : Each (λ (e : List ℕ × Function). FunctionFits P e.1) interface.functions

-- the spans of what a world holds under a key fit
abbrev pub ItemFits : (OptionalSpan → Type 0) → WorldItem → Type 0
ItemFits P (item.Interface id stability docs span external_id) = P span
ItemFits P (item.Function function) = FunctionFits P function
ItemFits P (item.Type_ id span) = P span

-- the spans of entries fit
abbrev pub EntriesFit : (OptionalSpan → Type 0) → List Entry → Type 0
EntriesFit P entries = Each (λ (e : Entry). ItemFits P e.1) entries

-- those of a world and of its entries
pub record WorldFits (P : OptionalSpan → Type 0) (world : World) : Type 0 where
  pub own : P world.span
  pub imports : EntriesFit P world.imports
  pub exports : EntriesFit P world.exports

-- those of a world with its entries, and of its includes
pub record WholeWorldFits (offset : ℕ) (world : World) : Type 0 where
  pub entries : WorldFits (Fits offset) world
  pub includes : Each (λ (i : WorldInclude). Fits offset i.span) world.includes

-- those of types, interfaces and worlds
pub record PartsFit (offset : ℕ) (types : List TypeDef) (interfaces : List Interface)
    (worlds : List World) : Type 0 where
  pub of_types : Each (TypeFits (Fits offset)) types
  pub of_interfaces : Each (InterfaceFits (Fits offset)) interfaces
  pub of_worlds : Each (WholeWorldFits offset) worlds

-- The parts of a package at the ends of a graph, its tables and its worlds under their new ids.

-- the name of an interface that has one, with its id
abbrev pub named_at : Maps → ℕ × Interface → Option (List ℕ × ℕ)
named_at m e = option_map (λ (name : List ℕ). (name, m.interfaces e.0)) e.1.name

-- the interfaces that have a name under it, each with its id
abbrev pub interfaces_at : Maps → List (ℕ × Interface) → List (List ℕ × ℕ)
interfaces_at m interfaces = filter_map (named_at m) interfaces

-- a world under its name, with its id
abbrev pub world_at : Maps → ℕ × World → List ℕ × ℕ
world_at m e = (e.1.name, m.worlds e.0)

-- the worlds under their names
abbrev pub worlds_at : Maps → List (ℕ × World) → List (List ℕ × ℕ)
worlds_at m worlds = map (world_at m) worlds

-- the keys of what is active still differ with their new ids
pub record HasKeysApart (m : Maps) (kept : KeptIds) (world : World) : Type 0 where
  pub imports : IsDistinct same_key
      (keys_of (map (entry_image m 0) (filter (λ (e : Entry). kept.items e.1) world.imports)))
  pub exports : IsDistinct same_key
      (keys_of (map (entry_image m 0) (filter (λ (e : Entry). kept.items e.1) world.exports)))

-- a world with new ids and spans, and what it includes
abbrev pub updated_world : Maps → Part → ℕ × World → UpdatedWorld
updated_world m part e = record {
  id = e.0;
  world = world_image m e.0 (cut_world (kept_of part) e.1);
  includes = filter (include_is_active part.features.now) e.1.includes;
}

-- the addition of a package to a graph
abbrev pub addition : Part → Graph → UnresolvedPackage → ℕ → Addition
addition part g u offset =
    record { features = part.features.now; graph = g; unresolved = u; offset = offset }

-- the worlds of its own of a package, with new ids and spans, each with the includes that are active
abbrev pub added_world : Addition → ℕ × World → UpdatedWorld
added_world a e =
    record
    { id = e.0; world = world_image (addition_maps a) e.0 e.1; includes = active_includes a e.1 }

abbrev pub added_worlds : Addition → List UpdatedWorld
added_worlds a = map (added_world a) (own_worlds a)

-- ---- the same by what ids are remapped to, whatever the addition

-- what can be moved to the ends of a graph: its spans fit, and names and keys differ with their new ids
pub record CanMoveParts (new_ids : NewIds) (m : Maps) (kept : KeptIds) (g : Graph)
    (u : UnresolvedPackage) : Type 0 where
  pub new : lookup (same_package u.name) g.package_names ≡ None
  pub types : Each (TypeFits (Fits m.offset)) u.types
  pub interfaces : Each (InterfaceFits (Fits m.offset)) u.interfaces
  pub worlds : Each (WorldFits (Fits m.offset)) u.worlds
  pub interface_names : IsDistinct bytes_eq (keys_of (interfaces_at m
      (selected_with_index (is_new (length g.interfaces) new_ids.interfaces) u.interfaces)))
  pub world_names : IsDistinct bytes_eq (keys_of
      (worlds_at m (selected_with_index (is_new (length g.worlds) new_ids.worlds) u.worlds)))
  pub keys : Each (λ (e : ℕ × World). HasKeysApart m kept e.1)
      (selected_with_index (is_new (length g.worlds) new_ids.worlds) u.worlds)

-- the package with the tables of what goes to new ids
abbrev pub moved_package : Maps → UnresolvedPackage → (ℕ → Bool) → (ℕ → Bool) → Package
moved_package m u own_interface own_world = record {
  name = u.name;
  docs = u.docs;
  interfaces = interfaces_at m (selected_with_index own_interface u.interfaces);
  worlds = worlds_at m (selected_with_index own_world u.worlds);
}

-- the graph with the parts that go to new ids
abbrev pub moved_parts : NewIds → Maps → KeptIds → List TypeDef → UnresolvedPackage → Graph → Graph
moved_parts new_ids m kept owns u g = record {
  types =
      g.types
      ++ (map (type_image m) (selected (is_new (length g.types) new_ids.types) u.types) ++ owns);
  interfaces =
      g.interfaces
      ++ map (interface_image m) (map (cut_interface kept)
      (selected (is_new (length g.interfaces) new_ids.interfaces) u.interfaces));
  worlds = g.worlds;
  packages =
      g.packages
      ++ moved_package m u (is_new (length g.interfaces) new_ids.interfaces)
      (is_new (length g.worlds) new_ids.worlds) ∷ [];
  package_names = g.package_names ++ (u.name, length g.packages) ∷ [];
}

-- the graph with its interfaces and the package, with a table of worlds
abbrev pub with_interfaces : NewIds → Maps → KeptIds → UnresolvedPackage → List (List ℕ × ℕ) → Graph
    → Graph
with_interfaces new_ids m kept u worlds g =
    let own = is_new (length g.interfaces) new_ids.interfaces in
    let home : Package = record {
      name = u.name;
      docs = u.docs;
      interfaces = interfaces_at m (selected_with_index own u.interfaces);
      worlds = worlds;
    } in
    record g {
      interfaces =
          g.interfaces
          ++ map (interface_image m) (map (cut_interface kept) (selected own u.interfaces));
      packages = g.packages ++ home ∷ [];
      package_names = g.package_names ++ (u.name, length g.packages) ∷ [];
    }
