-- The worlds of a package that are active, as they are listed behind a graph before they are elaborated: their
-- entries are what entries may be, so their keys and ids are in order.
use Rattle.std.proofs.Common.{◌≡◌, ◌∙◌, ℕ, true, List, map, length, Some, option_map, slice_get, sym, ap, subst, Contains}
use Rattle.wit_data.specs.Entries.{Entry, ExportsAreAllowed, ImportsAreAllowed, IsExport, IsImport}
use Rattle.wit_data.specs.Shape.{IsShaped}
use Rattle.wit_data.specs.declared.interface.Interface.{Interface}
use Rattle.wit_data.specs.declared.types.TypeDef.{TypeDef}
use Rattle.wit_data.specs.declared.world.World.{World}
use Rattle.wit_data.specs.declared.world.WorldItem.{WorldItem}
use Rattle.wit_data.specs.declared.world.WorldKey.{WorldKey}
use Rattle.wit_data.specs.declared.types.TypeOwner.TheVariants as owner
use Rattle.wit_data.specs.declared.world.WorldItem.TheVariants as item
use Rattle.wit_data.specs.declared.world.WorldKey.TheVariants as key
use Rattle.wit_values.specs.Table.{HasDistinctKeys}
use Rattle.wit_elaboration.specs.facts.Filters.{Contains-filter}
use Rattle.wit_elaboration.specs.Sound.{HasSoundEntries}
use Rattle.wit_elaboration.specs.facts.SoundFacts.{HasSoundEntries-of_world}
use Rattle.wit_elaboration.specs.Valid.{IsValid}
use Rattle.wit_graph_theory.specs.Cut.{ItemIsKept}
use Rattle.wit_remap_spec.specs.Kept.{cut_world}
use Rattle.wit_graph_theory.specs.facts.CutIsGood.{distinct_kept}
use Rattle.wit_remap_spec.specs.Image.{entry_image, item_image, key_image, name_image, owner_image, world_image}
use Rattle.wit_graph_theory.specs.facts.ListFacts.{Contains-map_cases, at_map, contained_at, found_at, from_map, place_of, some_at}
use Rattle.wit_graph_theory.specs.steps.Sources.{Stands}
use Rattle.wit_link_spec.specs.Addition.{Addition, active, addition_maps, own_world, own_worlds, remapped_interface, remapped_type, remapped_world}
use Rattle.wit_remap_spec.specs.Selected.{rank, selected_with_index}
use Rattle.wit_link_spec.specs.facts.ActivePart.{part}
use Rattle.wit_link_spec.specs.facts.ApartFacts.{KeyIsActive, keys_apart}
use Rattle.wit_link_spec.specs.facts.ClosedCut.{closed_part}
use Rattle.wit_link_spec.specs.Gates.{interface_is_active}
use Rattle.wit_link_spec.specs.facts.OwnThingFacts.{own_world_from}
use Rattle.wit_link_spec.specs.facts.RankFacts.{selected_with_index-at}
use Rattle.wit_link_spec.specs.Reasons.{IsResolved}
use Rattle.wit_link_spec.specs.facts.NamedAliases.{aliases_named, interface_within, named_goes}
use Rattle.wit_link_spec.specs.facts.Parts.{HasParts}
use Rattle.wit_link_spec.specs.facts.PartsStand.{type_stands}
use Rattle.wit_labels.specs.facts.PlacedFacts.{placed_distinct, placed_in}
use Rattle.wit_link_spec.specs.steps.Parts.{with_setters_placed}

-- ---- which worlds

-- what of a world is active
abbrev pub cut : Addition → World → World
cut a whole = cut_world (part a) whole

-- world w of the package, as it is listed behind the graph before it is elaborated
abbrev pub listed_own : Addition → ℕ → World → World
listed_own a w whole = with_setters_placed (world_image (addition_maps a) w (cut a whole))

-- world w of the package is active
pub record IsActiveWorld (a : Addition) (w : ℕ) (whole : World) : Type 0 where
  pub there : slice_get a.unresolved.worlds w ≡ Some whole
  pub takes : own_world a w ≡ true

-- among the worlds that are active it stands at its rank
pub own_world_at : (a : Addition) (w : ℕ) (whole : World) → IsActiveWorld a w whole → slice_get (own_worlds a) (rank (own_world a) w) ≡ Some (w, cut a whole)
own_world_at a w whole of =
    at_pair (selected_with_index (own_world a) a.unresolved.worlds) (rank (own_world a) w) (selected_with_index-at (own_world a) a.unresolved.worlds w whole of.there of.takes)
  where
    at_pair : (es : List (ℕ × World)) (k : ℕ) → slice_get es k ≡ Some (w, whole) → slice_get (map (λ (d : ℕ × World). let r : ℕ × World = (d.0, cut_world (active a) d.1) in r) es) k ≡ Some (w, cut a whole)
    at_pair es k at = at_map (λ (d : ℕ × World). let r : ℕ × World = (d.0, cut_world (active a) d.1) in r) es k (w, whole) at

-- ---- their entries

module _ (a : Addition) (shaped : IsShaped a.unresolved) (image : IsResolved a) (w : ℕ) (whole : World) (of : IsActiveWorld a w whole) where
  -- an entry that is active names what is active
  pub import_is_active : (e : Entry) → Contains (cut a whole).imports e → Contains whole.imports e × ItemIsKept (part a) e.1
  import_is_active e has =
      let old = Contains-filter (λ (e : Entry). (part a).items e.1) whole.imports e has in
      let place = place_of whole.imports e old.0 in
      (old.0, (closed_part a shaped image).imports w whole of.there of.takes place.0 e place.1 old.1)

  pub export_is_active : (e : Entry) → Contains (cut a whole).exports e → Contains whole.exports e × ItemIsKept (part a) e.1
  export_is_active e has =
      let old = Contains-filter (λ (e : Entry). (part a).items e.1) whole.exports e has in
      let place = place_of whole.exports e old.0 in
      (old.0, (closed_part a shaped image).exports w whole of.there of.takes place.0 e place.1 old.1)

  pub was_import : (e : Entry) → Contains whole.imports e → IsImport a.unresolved.interfaces a.unresolved.types w e.0 e.1
  was_import e has = let place = place_of whole.imports e has in shaped.worlds.imports w whole of.there place.0 e place.1

  pub was_export : (e : Entry) → Contains whole.exports e → IsExport a.unresolved.interfaces e.0 e.1
  was_export e has = let place = place_of whole.exports e has in shaped.worlds.exports w whole of.there place.0 e place.1

  -- the images of its entries, before setters are placed
  abbrev pub images : List Entry → List Entry
  images es = map (entry_image (addition_maps a) w) es

  -- the entry of which an entry is the image
  pub import_from : (e : Entry) → Contains (listed_own a w whole).imports e → (d : Entry) × Contains (cut a whole).imports d × (entry_image (addition_maps a) w d ≡ e)
  import_from e has = Contains-map_cases (entry_image (addition_maps a) w) (cut a whole).imports e (placed_in (images (cut a whole).imports) e has)

  pub export_from : (e : Entry) → Contains (listed_own a w whole).exports e → (d : Entry) × Contains (cut a whole).exports d × (entry_image (addition_maps a) w d ≡ e)
  export_from e has = Contains-map_cases (entry_image (addition_maps a) w) (cut a whole).exports e (placed_in (images (cut a whole).exports) e has)

-- ---- keys that differ

module _ (a : Addition) (valid : IsValid a.graph) (shaped : IsShaped a.unresolved) (image : IsResolved a) (w : ℕ) (whole : World) (of : IsActiveWorld a w whole) where
  pub export_key : (k : WorldKey) (held : WorldItem) → IsExport a.unresolved.interfaces k held → ItemIsKept (part a) held → KeyIsActive a valid shaped image k
  export_key (key.Name label) held is takes = tt
  export_key (key.Interface f) (item.Interface i stability docs span external_id) is takes = subst (λ (x : ℕ). interface_is_active a.features a.unresolved x ≡ true) is.0 takes
  export_key (key.Interface f) (item.Function fn) is takes = absurd is
  export_key (key.Interface f) (item.Type_ t span) is takes = absurd is

  pub import_key : (k : WorldKey) (held : WorldItem) → IsImport a.unresolved.interfaces a.unresolved.types w k held → ItemIsKept (part a) held → KeyIsActive a valid shaped image k
  import_key (key.Name label) held is takes = tt
  import_key (key.Interface f) held is takes = export_key (key.Interface f) held is takes

  pub images_apart : (es : List Entry) → ((e : Entry) → Contains es e → KeyIsActive a valid shaped image e.0) → HasDistinctKeys es → HasDistinctKeys (map (entry_image (addition_maps a) w) es)
  images_apart es takes distinct i j e f first second same =
      let x = from_map (entry_image (addition_maps a) w) es i e first in
      let y = from_map (entry_image (addition_maps a) w) es j f second in
      let keys = ap (λ (d : Entry). d.0) x.2 ∙ same ∙ ap (λ (d : Entry). d.0) (sym y.2) in
      distinct i j x.0 y.0 x.1 y.1 (keys_apart a valid shaped image w x.0.0 y.0.0 (takes x.0 (contained_at es i x.0 x.1)) (takes y.0 (contained_at es j y.0 y.1)) keys)

  -- no key of a listed world comes twice
  pub imports_apart : HasDistinctKeys (listed_own a w whole).imports
  imports_apart =
      placed_distinct (map (entry_image (addition_maps a) w) (cut a whole).imports)
      (images_apart (cut a whole).imports
      (λ e has. let is = import_is_active a shaped image w whole of e has in import_key e.0 e.1 (was_import a shaped image w whole of e is.0) is.1)
      (distinct_kept (λ (e : Entry). (part a).items e.1) whole.imports (shaped.keys.imports w whole of.there)))

  pub exports_apart : HasDistinctKeys (listed_own a w whole).exports
  exports_apart =
      placed_distinct (map (entry_image (addition_maps a) w) (cut a whole).exports)
      (images_apart (cut a whole).exports
      (λ e has. let is = export_is_active a shaped image w whole of e has in export_key e.0 e.1 (was_export a shaped image w whole of e is.0) is.1)
      (distinct_kept (λ (e : Entry). (part a).items e.1) whole.exports (shaped.keys.exports w whole of.there)))

-- ---- keys and ids in order

module _ (a : Addition) (valid : IsValid a.graph) (shaped : IsShaped a.unresolved) (image : IsResolved a) (types : List TypeDef) (interfaces : List Interface) (are : HasParts a types interfaces) where
  -- the image of an entry that is active is an entry
  pub export_goes : (w : ℕ) (k : WorldKey) (held : WorldItem) → ItemIsKept (part a) held → IsExport a.unresolved.interfaces k held
      → IsExport interfaces (key_image (addition_maps a) w k) (item_image (addition_maps a) w held)
  export_goes w (key.Interface f) (item.Interface i stability docs span external_id) takes is = (
    ap (remapped_interface a) is.0,
    named_goes a valid shaped image types interfaces are f (subst (λ (x : ℕ). interface_is_active a.features a.unresolved x ≡ true) is.0 takes) is.1,
  )
  export_goes w (key.Interface f) (item.Function fn) takes is = absurd is
  export_goes w (key.Interface f) (item.Type_ t span) takes is = absurd is
  export_goes w (key.Name name) (item.Interface i stability docs span external_id) takes is = interface_within a valid shaped image types interfaces are i takes
  export_goes w (key.Name name) (item.Function fn) takes is = is
  export_goes w (key.Name name) (item.Type_ t span) takes is = absurd is

  pub import_goes : (w : ℕ) (k : WorldKey) (held : WorldItem) → ItemIsKept (part a) held → IsImport a.unresolved.interfaces a.unresolved.types w k held
      → IsImport interfaces types (remapped_world a w) (key_image (addition_maps a) w k) (item_image (addition_maps a) w held)
  import_goes w (key.Interface f) (item.Interface i stability docs span external_id) takes is = export_goes w (key.Interface f) (item.Interface i stability docs span external_id) takes is
  import_goes w (key.Interface f) (item.Function fn) takes is = absurd is
  import_goes w (key.Interface f) (item.Type_ t span) takes is = absurd is
  import_goes w (key.Name name) (item.Interface i stability docs span external_id) takes is = interface_within a valid shaped image types interfaces are i takes
  import_goes w (key.Name name) (item.Function fn) takes is = is
  import_goes w (key.Name name) (item.Type_ t span) takes is =
      let old = found_at (λ (def : TypeDef). (def.name ≡ Some name) × (def.owner ≡ owner.World w)) a.unresolved.types t is in
      let new = found_at (Stands (addition_maps a) old.0) types (remapped_type a t) (type_stands a valid shaped image types interfaces are t old.0 old.1 takes) in
      some_at (λ (def : TypeDef). (def.name ≡ Some name) × (def.owner ≡ owner.World (remapped_world a w))) types (remapped_type a t) new.0 new.1
      (new.2.name ∙ (λ i. option_map (name_image (addition_maps a) (old.2.1 i)) (old.2.0 i)), new.2.owner ∙ ap (owner_image (addition_maps a)) old.2.1)

  module _ (w : ℕ) (whole : World) (of : IsActiveWorld a w whole) where
    -- so are those of a listed world
    pub listed_imports : ImportsAreAllowed interfaces types (remapped_world a w) (listed_own a w whole)
    listed_imports i e on =
        let from = import_from a shaped image w whole of e (contained_at (listed_own a w whole).imports i e on) in
        let takes = import_is_active a shaped image w whole of from.0 from.1 in
        subst (λ (d : Entry). IsImport interfaces types (remapped_world a w) d.0 d.1) from.2 (import_goes w from.0.0 from.0.1 takes.1 (was_import a shaped image w whole of from.0 takes.0))

    pub listed_exports : ExportsAreAllowed interfaces (listed_own a w whole)
    listed_exports i e on =
        let from = export_from a shaped image w whole of e (contained_at (listed_own a w whole).exports i e on) in
        let takes = export_is_active a shaped image w whole of from.0 from.1 in
        subst (λ (d : Entry). IsExport interfaces d.0 d.1) from.2 (export_goes w from.0.0 from.0.1 takes.1 (was_export a shaped image w whole of from.0 takes.0))

    pub is_listed : HasSoundEntries types (length interfaces) (listed_own a w whole).imports (listed_own a w whole).exports
    is_listed = HasSoundEntries-of_world types interfaces (aliases_named a valid shaped image types interfaces are) (remapped_world a w) (listed_own a w whole) listed_imports listed_exports

  -- the keys and ids of each world that is active are in order before it is elaborated
  pub listed_worlds : (k : ℕ) (e : ℕ × World) → slice_get (own_worlds a) k ≡ Some e
      → HasSoundEntries types (length interfaces) (with_setters_placed (world_image (addition_maps a) e.0 e.1)).imports (with_setters_placed (world_image (addition_maps a) e.0 e.1)).exports
  listed_worlds k e at =
      let is = own_world_from a k e at in
      subst (λ (world : World). HasSoundEntries types (length interfaces) (with_setters_placed (world_image (addition_maps a) e.0 world)).imports (with_setters_placed (world_image (addition_maps a) e.0 world)).exports) is.is
      (is_listed e.0 is.world (record { there = is.there; takes = is.own }))
