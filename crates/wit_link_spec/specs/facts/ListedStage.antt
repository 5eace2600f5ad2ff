-- The first stage of an addition: the graph with the package's types and interfaces, and behind its worlds those of the
-- package as they are listed. Its things come of the graph and of the package, and these stand in it.
use Rattle.std.proofs.Common.{◌≡◌, ◌∙◌, ◌⊎◌, inl, inr, ℕ, zero, suc, true, List, ◌++◌, map, None, Some, slice_get, refl, sym, ap, subst, Contains}
use Rattle.std.proofs.lemmas.List.Elements.{Contains-append_left, Contains-append_right}
use Rattle.wit_values.specs.facts.Lists.{slice_get-append}
use Rattle.wit_values.specs.Table.{HasDistinctKeys}
use Rattle.wit_digraph.specs.facts.MemberFacts.{Contains-flat_map, Contains-flat_map_cases}
use Rattle.wit_sources.specs.Span.{moved_by}
use Rattle.wit_data.specs.Each.{SomeAt}
use Rattle.wit_data.specs.Entries.{Entry}
use Rattle.wit_data.specs.Ownership.{entry_type, world_types}
use Rattle.wit_data.specs.Shape.{IsShaped}
use Rattle.wit_data.specs.declared.interface.Interface.{Interface}
use Rattle.wit_data.specs.declared.types.TypeDef.{TypeDef}
use Rattle.wit_data.specs.declared.world.World.{World}
use Rattle.wit_elaboration.specs.Valid.{IsValid}
use Rattle.wit_graph_data.specs.declared.graph.Graph.{Graph}
use Rattle.wit_graph_theory.specs.facts.Covered.{EntryComes, IsCovered, IsNoType, WorldComes}
use Rattle.wit_graph_theory.specs.Cut.{StaysIn}
use Rattle.wit_remap_spec.specs.Kept.{cut_interface, cut_world}
use Rattle.wit_remap_spec.specs.steps.Kept.{everything}
use Rattle.wit_graph_theory.specs.facts.CutIsGood.{distinct_kept}
use Rattle.wit_graph_theory.specs.facts.GraphSource.{graph_stands}
use Rattle.wit_remap_spec.specs.Image.{entry_image, item_image, key_image, world_image}
use Rattle.wit_graph_theory.specs.facts.ImagesCome.{entry_image_comes}
use Rattle.wit_graph_theory.specs.facts.ListFacts.{Contains-map, at_map, at_new, contained_at, from_map, old_or_new, some_at}
use Rattle.wit_graph_theory.specs.steps.Sources.{Carries, InterfaceStands, Source, WorldStands}
use Rattle.wit_link_spec.specs.Addition.{Addition, addition_maps, own_world, own_worlds, remapped_world}
use Rattle.wit_remap_spec.specs.Selected.{rank}
use Rattle.wit_link_spec.specs.facts.ActivePart.{part}
use Rattle.wit_link_spec.specs.Added.{with_parts}
use Rattle.wit_link_spec.specs.Reasons.{IsResolved}
use Rattle.wit_link_spec.specs.facts.Standing.{own_world_remapped}
use Rattle.wit_link_spec.specs.facts.OldWorlds.{old_world_comes}
use Rattle.wit_link_spec.specs.facts.InterfacesCome.{interfaces_come}
use Rattle.wit_link_spec.specs.facts.ListedWorlds.{IsActiveWorld, cut, export_is_active, export_key, images_apart, import_is_active, import_key, own_world_at, was_export, was_import}
use Rattle.wit_link_spec.specs.facts.OwnThingFacts.{own_world_from}
use Rattle.wit_link_spec.specs.facts.Parts.{HasParts}
use Rattle.wit_link_spec.specs.facts.PartsStand.{interface_stands, old_interface_at, old_type_at, type_stands, values_stand_there}
use Rattle.wit_link_spec.specs.facts.SourcesGood.{package_source, sources}
use Rattle.wit_link_spec.specs.facts.TypesCome.{types_come}
use Rattle.wit_link_spec.specs.facts.ListedTypes.{lists_type, type_listed}
use Rattle.wit_link_spec.specs.facts.Remains.{export_no_type, image_no_type}

-- the worlds of the package that are active, as they are listed
abbrev pub listed_images : Addition → List World
listed_images a = map (λ (e : ℕ × World). world_image (addition_maps a) e.0 e.1) (own_worlds a)

abbrev pub listed : Addition → Graph
listed a = record (with_parts a) { worlds = a.graph.worlds ++ listed_images a }

pub listed_parts : (a : Addition) → HasParts a (with_parts a).types (with_parts a).interfaces
listed_parts a = record { types_are = refl; interfaces_are = refl }

-- a world stands as its image
pub world_image_stands : (s : Source) (w : ℕ) (world : World) → WorldStands s w world (world_image s.maps w world)
world_image_stands s w world = record {
  types = λ name t has takes.
      let d = Contains-flat_map_cases (λ (d : Entry). entry_type d.0 d.1) world.imports (name, t) has in
      let lists = lists_type d.0 name t d.1.1 in
      let image = entry_image s.maps w d.0 in
      Contains-flat_map (λ (d : Entry). entry_type d.0 d.1) (map (entry_image s.maps w) world.imports) image (s.maps.labels w name, s.maps.types t) (Contains-map (entry_image s.maps w) world.imports d.0 d.1.0)
      (type_listed image (s.maps.labels w name) (s.maps.types t) (record { span = moved_by s.maps.offset lists.span; key_is = ap (key_image s.maps w) lists.key_is; held_is = ap (item_image s.maps w) lists.held_is }));
  home = refl;
}

module _ (a : Addition) (valid : IsValid a.graph) (shaped : IsShaped a.unresolved) (image : IsResolved a) where
  -- ---- a world comes of itself

  module _ (w : ℕ) (whole : World) (of : IsActiveWorld a w whole) where
    there : slice_get (sources a 1).graph.worlds w ≡ Some (cut a whole)
    there = at_map (cut_world (part a)) a.unresolved.worlds w whole of.there

    imports_distinct : HasDistinctKeys (map (entry_image (addition_maps a) w) (cut a whole).imports)
    imports_distinct =
        images_apart a valid shaped image w whole of (cut a whole).imports
        (λ e has. let is = import_is_active a shaped image w whole of e has in import_key a valid shaped image w whole of e.0 e.1 (was_import a shaped image w whole of e is.0) is.1)
        (distinct_kept (λ (e : Entry). (part a).items e.1) whole.imports (shaped.keys.imports w whole of.there))

    exports_distinct : HasDistinctKeys (map (entry_image (addition_maps a) w) (cut a whole).exports)
    exports_distinct =
        images_apart a valid shaped image w whole of (cut a whole).exports
        (λ e has. let is = export_is_active a shaped image w whole of e has in export_key a valid shaped image w whole of e.0 e.1 (was_export a shaped image w whole of e is.0) is.1)
        (distinct_kept (λ (e : Entry). (part a).items e.1) whole.exports (shaped.keys.exports w whole of.there))

    listed_comes : WorldComes (sources a) (listed a) (remapped_world a w) (world_image (addition_maps a) w (cut a whole))
    listed_comes = record {
      imports = λ i e on.
          let old = from_map (entry_image (addition_maps a) w) (cut a whole).imports i e on in
          let among = contained_at (cut a whole).imports i old.0 old.1 in
          inl (subst (EntryComes (sources a) (remapped_world a w)) old.2 (entry_image_comes (sources a) 1 w (cut a whole) old.0 there of.takes (Contains-append_left (cut a whole).imports (cut a whole).exports old.0 among)));
      exports = λ i e on.
          let old = from_map (entry_image (addition_maps a) w) (cut a whole).exports i e on in
          let among = contained_at (cut a whole).exports i old.0 old.1 in
          let was = export_no_type a.unresolved.interfaces old.0.0 old.0.1 (was_export a shaped image w whole of old.0 (export_is_active a shaped image w whole of old.0 among).0) in
          inl (
            subst (EntryComes (sources a) (remapped_world a w)) old.2 (entry_image_comes (sources a) 1 w (cut a whole) old.0 there of.takes (Contains-append_right (cut a whole).imports (cut a whole).exports old.0 among)),
            subst (λ (d : Entry). IsNoType d.1) old.2 (image_no_type (addition_maps a) w old.0.1 was),
          );
      distinct_imports = imports_distinct;
      distinct_exports = exports_distinct;
      no_includes = refl;
    }

  -- ---- which worlds are there

  -- world w' of the stage is the listed one of world w of the package
  pub record IsListedOf (w' : ℕ) (world : World) (w : ℕ) (whole : World) : Type 0 where
    pub of : IsActiveWorld a w whole
    pub place : w' ≡ remapped_world a w
    pub is : world ≡ world_image (addition_maps a) w (cut a whole)

  pub listed_from : (w' : ℕ) (world : World) → slice_get (listed a).worlds w' ≡ Some world → (slice_get a.graph.worlds w' ≡ Some world) ⊎ ((w : ℕ) × (whole : World) × IsListedOf w' world w whole)
  listed_from w' world at =
      elim (old_or_new a.graph.worlds (listed_images a) w' world at) [
        | inl old ↦ inl old
        | inr later ↦
            let e = from_map (λ (e : ℕ × World). world_image (addition_maps a) e.0 e.1) (own_worlds a) later.0 world later.2 in
            let own = own_world_from a later.0 e.0 e.1 in
            inr (e.0.0, own.world, record { of = record { there = own.there; takes = own.own }; place = later.1 ∙ sym own.place; is = sym e.2 ∙ ap (world_image (addition_maps a) e.0.0) (sym own.is) })
      ]

  listed_at : (w : ℕ) (whole : World) → IsActiveWorld a w whole → slice_get (listed a).worlds (remapped_world a w) ≡ Some (world_image (addition_maps a) w (cut a whole))
  listed_at w whole of =
      at_new a.graph.worlds (listed_images a) (rank (own_world a) w) (remapped_world a w) (world_image (addition_maps a) w (cut a whole)) (own_world_remapped a w of.takes)
      (at_map (λ (e : ℕ × World). world_image (addition_maps a) e.0 e.1) (own_worlds a) (rank (own_world a) w) (w, cut a whole) (own_world_at a w whole of))

  -- ---- the graph behind which the package is put stays, where its worlds do
  graph_stays : (g : Graph) → HasParts a g.types g.interfaces → ((w : ℕ) (world : World) → slice_get a.graph.worlds w ≡ Some world → slice_get g.worlds w ≡ Some world) → StaysIn a.graph g
  graph_stays g are worlds = record {
    types = λ t def at. some_at (λ (new : TypeDef). (new.name ≡ def.name) × (new.owner ≡ def.owner) × ((def.name ≡ None) → new.kind ≡ def.kind)) g.types t def (old_type_at a valid shaped image g.types g.interfaces are t def at) (refl, refl, λ none. refl);
    interfaces = λ f interface at. some_at (λ (new : Interface). (new.name ≡ interface.name) × (new.package ≡ interface.package) × ((e : List ℕ × ℕ) → Contains interface.types e → Contains new.types e)) g.interfaces f interface (old_interface_at a valid shaped image g.types g.interfaces are f interface at) (refl, refl, λ e has. has);
    worlds = λ w world at. some_at (λ (new : World). (new.package ≡ world.package) × ((e : List ℕ × ℕ) → Contains (world_types world) e → Contains (world_types new) e)) g.worlds w world (worlds w world at) (refl, λ e has. has);
  }

  -- ---- what is active of the package stands, where its worlds do

  module _ (g : Graph) (are : HasParts a g.types g.interfaces) where
    package_interface_stands : (f : ℕ) (interface : Interface) → slice_get (package_source a).graph.interfaces f ≡ Some interface → (part a).interfaces f ≡ true
        → SomeAt g.interfaces ((addition_maps a).interfaces f) (InterfaceStands (package_source a) interface)
    package_interface_stands f interface at takes =
        let from = from_map (cut_interface (part a)) a.unresolved.interfaces f interface at in
        subst (λ (x : Interface). SomeAt g.interfaces ((addition_maps a).interfaces f) (InterfaceStands (package_source a) x)) from.2 (interface_stands a valid shaped image g.types g.interfaces are f from.0 from.1 takes)

    package_stands : ((w : ℕ) (world : World) → slice_get (package_source a).graph.worlds w ≡ Some world → (part a).worlds w ≡ true → SomeAt g.worlds ((addition_maps a).worlds w) (WorldStands (package_source a) w world))
        → Carries (package_source a) g
    package_stands worlds = record {
      types = λ t def at takes. type_stands a valid shaped image g.types g.interfaces are t def at takes;
      values = λ t def at takes. values_stand_there a valid shaped image g.types g.interfaces are t def at takes;
      interfaces = package_interface_stands;
      worlds = worlds;
    }

  -- ---- the sources stand, and all things come of them

  pub stage_stays : StaysIn a.graph (listed a)
  stage_stays = graph_stays (listed a) (listed_parts a) (λ w world at. slice_get-append a.graph.worlds (listed_images a) w world at)

  worlds_stand : (w : ℕ) (world : World) → slice_get (package_source a).graph.worlds w ≡ Some world → (part a).worlds w ≡ true → SomeAt (listed a).worlds ((addition_maps a).worlds w) (WorldStands (package_source a) w world)
  worlds_stand w world at takes =
      let whole = from_map (cut_world (part a)) a.unresolved.worlds w world at in
      let of : IsActiveWorld a w whole.0 = record { there = whole.1; takes = takes } in
      subst (λ (x : World). SomeAt (listed a).worlds (remapped_world a w) (WorldStands (package_source a) w x)) whole.2
      (some_at (WorldStands (package_source a) w (cut a whole.0)) (listed a).worlds (remapped_world a w) (world_image (addition_maps a) w (cut a whole.0)) (listed_at w whole.0 of)
      (world_image_stands (package_source a) w (cut a whole.0)))

  pub stage_inherits : (k : ℕ) → Carries (sources a k) (listed a)
  stage_inherits zero = graph_stands a.graph (listed a) stage_stays
  stage_inherits (suc k) = package_stands (listed a) (listed_parts a) worlds_stand

  pub stage_covered : IsCovered everything (sources a) (listed a)
  stage_covered = record {
    types = λ t' def on takes. types_come a valid shaped image (listed a) (listed_parts a) t' def on;
    interfaces = λ f' interface on takes. interfaces_come a valid shaped image (listed a) (listed_parts a) f' interface on;
    worlds = λ w' world on takes. elim (listed_from w' world on) [
      | inl old ↦ old_world_comes a valid (listed a) w' world old
      | inr made ↦
          let is = made.2 in
          subst (λ (v : ℕ). WorldComes (sources a) (listed a) v world) (sym is.place)
          (subst (WorldComes (sources a) (listed a) (remapped_world a made.0)) (sym is.is) (listed_comes made.0 made.1 is.of))
    ];
  }
