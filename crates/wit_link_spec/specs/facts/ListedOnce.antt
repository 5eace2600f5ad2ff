-- In the first stage of an addition an interface without a name stands in one place, as it did in the graph and in the
-- package; so the stage is partially linked.
use Rattle.std.proofs.Common.{◌≡◌, ◌∙◌, ◌⊎◌, inl, inr, ℕ, zero, suc, ◌<◌, ◌≤◌, Bool, true, false, List, [], ◌∷◌, map, length, Some, IsSome, slice_get, refl, sym, ap, subst, arith, Contains}
use Rattle.std.proofs.lemmas.Bool.{cases_Bool, ltb-true}
use Rattle.wit_values.specs.Table.{HasDistinctKeys}
use Rattle.wit_data.specs.Entries.{Entry, is_unnamed, item_interface, entries_of}
use Rattle.wit_data.specs.Shape.{IsShaped}
use Rattle.wit_data.specs.declared.interface.Interface.{Interface}
use Rattle.wit_data.specs.declared.world.World.{World}
use Rattle.wit_data.specs.declared.world.WorldItem.{WorldItem}
use Rattle.wit_data.specs.declared.world.WorldKey.{WorldKey}
use Rattle.wit_data.specs.declared.world.WorldItem.TheVariants as item
use Rattle.wit_elaboration.specs.Valid.{IsValid}
use Rattle.wit_graph_data.specs.declared.graph.Graph.{Graph}
use Rattle.wit_graph_theory.specs.facts.CoveredIsValid.{covered_items}
use Rattle.wit_graph_theory.specs.Cut.{ItemIsKept, kept_whole}
use Rattle.wit_remap_spec.specs.Kept.{cut_interface}
use Rattle.wit_graph_theory.specs.facts.GoodIsValid.{good_things}
use Rattle.wit_graph_theory.specs.facts.GoodWorlds.{same_one}
use Rattle.wit_remap_spec.specs.Image.{entry_image, item_image, key_image, world_image}
use Rattle.wit_graph_theory.specs.facts.ListFacts.{Contains-map_cases, contained_at, found_at, get_at, place_of, same_at, some_at}
use Rattle.wit_graph_theory.specs.steps.UnnamedOnce.{Holds, Origin, StandsOnceOnly, StayApart}
use Rattle.wit_graph_theory.specs.facts.UnnamedOnceCarried.{StandsOnceOnly-of_covered, named_not, unnamed_same}
use Rattle.wit_graph_theory.specs.facts.UnnamedOnceFrom.{StandsOnceOnly-from_once, cut_has_one_place}
use Rattle.wit_graph_theory.specs.steps.Sources.{InterfaceStands, Source}
use Rattle.wit_link_spec.specs.Addition.{Addition, addition_maps, remapped_interface}
use Rattle.wit_link_spec.specs.facts.ActivePart.{part}
use Rattle.wit_link_spec.specs.Gates.{interface_is_active, is_foreign_interface}
use Rattle.wit_link_spec.specs.facts.OwnThingFacts.{own_of_both}
use Rattle.wit_link_spec.specs.Reasons.{IsResolved}
use Rattle.wit_link_spec.specs.facts.Standing.{foreign_interface_remapped, own_interface_remapped}
use Rattle.wit_link_spec.specs.facts.AcyclicFacts.{added_types_acyclic, added_uses_acyclic}
use Rattle.wit_link_spec.specs.facts.ApartFacts.{active_there, interfaces_apart}
use Rattle.wit_link_spec.specs.facts.ListedStage.{listed, listed_from, listed_parts, stage_covered, stage_inherits}
use Rattle.wit_link_spec.specs.facts.ListedWorlds.{IsActiveWorld, cut, export_is_active, import_is_active}
use Rattle.wit_link_spec.specs.facts.PartsStand.{interface_stands, old_interface_at}
use Rattle.wit_link_spec.specs.facts.IncludedOnce.{held_within}
use Rattle.wit_link_spec.specs.facts.PartiallyLinked.{IsSoundSoFar}
use Rattle.wit_link_spec.specs.facts.SourcesGood.{package_source, sources, sources_good}

-- ---- interfaces without names

unnamed_cut : (a : Addition) (f : ℕ) → is_unnamed (map (cut_interface (part a)) a.unresolved.interfaces) f ≡ is_unnamed a.unresolved.interfaces f
unnamed_cut a f = by a.unresolved.interfaces f
  where
    by : (xs : List Interface) (i : ℕ) → is_unnamed (map (cut_interface (part a)) xs) i ≡ is_unnamed xs i
    by [] i = refl
    by (x ∷ xs) zero = refl
    by (x ∷ xs) (suc i) = by xs i

-- the places of one source
same_origin : (s : Source) (f' w' v' : ℕ) (c d : WorldKey) → ((f e : ℕ) → s.interfaces f ≡ true → s.interfaces e ≡ true → s.maps.interfaces f ≡ s.maps.interfaces e → f ≡ e)
    → StandsOnceOnly s.graph.interfaces s.graph.worlds → Origin s f' w' c → Origin s f' v' d → (w' ≡ v') × (c ≡ d)
same_origin s f' w' v' c d injective one x y =
    let same = injective x.f y.f x.takes y.takes (sym x.place ∙ y.place) in
    let places = one x.f x.w y.w x.b y.b x.i y.i x.unnamed x.holds (subst (λ (f : ℕ). Holds s.graph.worlds y.w y.b y.i f) (sym same) y.holds) in
    let worlds = same_at s.graph.worlds x.w y.w x.holds.world y.holds.world places.0 x.holds.there y.holds.there in
    let lists : entries_of x.b x.holds.world ≡ entries_of y.b y.holds.world = λ i. entries_of (places.1 i) (worlds i) in
    let entries = same_at (entries_of y.b y.holds.world) x.i y.i x.holds.entry y.holds.entry places.2 (subst (λ (es : List Entry). slice_get es x.i ≡ Some x.holds.entry) lists x.holds.at) y.holds.at in
    (x.world_place ∙ ap s.maps.worlds places.0 ∙ sym y.world_place, x.key ∙ (λ i. key_image s.maps (places.0 i) (entries i).0) ∙ sym y.key)

-- the interface of an image
image_interface : (a : Addition) (w : ℕ) (held : WorldItem) (f' : ℕ) → ItemIsKept (part a) held → item_interface (item_image (addition_maps a) w held) ≡ f' ∷ []
    → (f : ℕ) × (item_interface held ≡ f ∷ []) × (f' ≡ remapped_interface a f) × (interface_is_active a.features a.unresolved f ≡ true)
image_interface a w (item.Interface i stability docs span external_id) f' takes is = (i, refl, sym (same_one (remapped_interface a i) f' is), takes)
image_interface a w (item.Function f) f' takes is = cc
image_interface a w (item.Type_ t span) f' takes is = cc

-- ---- apart

module _ (a : Addition) (valid : IsValid a.graph) (shaped : IsShaped a.unresolved) (image : IsResolved a) where
  abbrev new : Graph
  new = listed a

  -- an interface of the package without a name goes behind those of the graph
  unnamed_behind : (f : ℕ) → interface_is_active a.features a.unresolved f ≡ true → is_unnamed a.unresolved.interfaces f ≡ true → length a.graph.interfaces ≤ remapped_interface a f
  unnamed_behind f active unnamed = elim (cases_Bool (is_foreign_interface a.unresolved f)) [
    | inl foreign ↦
        let there = active_there a valid shaped image f active in
        let goes = foreign_interface_remapped a valid shaped image f there.0 there.1 foreign active in
        let found = found_at (λ (interface : Interface). IsSome interface.name × (interface.name ≡ there.0.name)) a.graph.interfaces (remapped_interface a f) goes.1 in
        let same = unnamed_same a.unresolved.interfaces a.graph.interfaces f (remapped_interface a f) there.0 found.0 there.1 found.1 found.2.1 in
        absurd (named_not a.graph.interfaces (remapped_interface a f) (some_at (λ (interface : Interface). IsSome interface.name) a.graph.interfaces (remapped_interface a f) found.0 found.1 found.2.0) (same ∙ unnamed))
    | inr own ↦
        let place = own_interface_remapped a f (own_of_both (is_foreign_interface a.unresolved f) (interface_is_active a.features a.unresolved f) own active) in
        omega arith
  ]

  -- one that stands in the new graph has a name there if it has one in the package
  unnamed_goes : (f : ℕ) → interface_is_active a.features a.unresolved f ≡ true → is_unnamed new.interfaces (remapped_interface a f) ≡ is_unnamed a.unresolved.interfaces f
  unnamed_goes f active =
      let there = active_there a valid shaped image f active in
      let found = found_at (InterfaceStands (package_source a) (cut_interface (part a) there.0)) new.interfaces (remapped_interface a f)
      (interface_stands a valid shaped image new.types new.interfaces (listed_parts a) f there.0 there.1 active) in
      unnamed_same a.unresolved.interfaces new.interfaces f (remapped_interface a f) there.0 found.0 there.1 found.1 found.2.name

  unnamed_stays : (f : ℕ) → f < length a.graph.interfaces → is_unnamed new.interfaces f ≡ is_unnamed a.graph.interfaces f
  unnamed_stays f within =
      let there = get_at a.graph.interfaces f within in
      unnamed_same a.graph.interfaces new.interfaces f f there.0 there.0 there.1 (old_interface_at a valid shaped image new.types new.interfaces (listed_parts a) f there.0 there.1) refl

  old_one : StandsOnceOnly a.graph.interfaces a.graph.worlds
  old_one = StandsOnceOnly-from_once a.graph.interfaces a.graph.worlds valid.well_formed.worlds.once

  unresolved_one : StandsOnceOnly a.unresolved.interfaces a.unresolved.worlds
  unresolved_one = StandsOnceOnly-from_once a.unresolved.interfaces a.unresolved.worlds shaped.worlds.once

  old_distinct : (w : ℕ) (b : Bool) (world : World) → slice_get a.graph.worlds w ≡ Some world → HasDistinctKeys (entries_of b world)
  old_distinct w false world at = valid.well_formed.worlds.distinct_imports w world at
  old_distinct w true world at = valid.well_formed.worlds.distinct_exports w world at

  unresolved_distinct : (w : ℕ) (b : Bool) (world : World) → slice_get a.unresolved.worlds w ≡ Some world → HasDistinctKeys (entries_of b world)
  unresolved_distinct w false world at = shaped.keys.imports w world at
  unresolved_distinct w true world at = shaped.keys.exports w world at

  -- in each source it has one place
  one_in : (k : ℕ) → StandsOnceOnly (sources a k).graph.interfaces (sources a k).graph.worlds
  one_in zero = cut_has_one_place (kept_whole a.graph) a.graph.interfaces a.graph.worlds old_one old_distinct
  one_in (suc k) = cut_has_one_place (part a) a.unresolved.interfaces a.unresolved.worlds unresolved_one unresolved_distinct

  injective : (k f e : ℕ) → (sources a k).interfaces f ≡ true → (sources a k).interfaces e ≡ true → (sources a k).maps.interfaces f ≡ (sources a k).maps.interfaces e → f ≡ e
  injective zero f e takes other same = same
  injective (suc k) f e takes other same = interfaces_apart a valid shaped image f e takes other same

  -- those of the two sources don't meet
  never_meet : (f' w' v' : ℕ) (c d : WorldKey) (k : ℕ) → Origin (sources a zero) f' w' c → Origin (sources a (suc k)) f' v' d → ⊥
  never_meet f' w' v' c d k x y =
      let low : x.f < length a.graph.interfaces = ltb-true x.f (length a.graph.interfaces) x.takes in
      let high = unnamed_behind y.f y.takes (sym (unnamed_cut a y.f) ∙ y.unnamed) in
      let p = x.place in
      let q = y.place in
      omega arith

  meet : (f' w' v' : ℕ) (c d : WorldKey) (k l : ℕ) → is_unnamed new.interfaces f' ≡ true → Origin (sources a k) f' w' c → Origin (sources a l) f' v' d → (k ≡ l) ⊎ ((w' ≡ v') × (c ≡ d))
  meet f' w' v' c d zero zero unnamed x y = inl refl
  meet f' w' v' c d zero (suc l) unnamed x y = absurd (never_meet f' w' v' c d l x y)
  meet f' w' v' c d (suc k) zero unnamed x y = absurd (never_meet f' v' w' d c k y x)
  meet f' w' v' c d (suc k) (suc l) unnamed x y = inr (same_origin (sources a 1) f' w' v' c d (injective 1) (one_in 1) x y)

  -- ---- on one side

  -- where an entry of a new world that holds such an interface stood in the package
  record Stood (w : ℕ) (whole : World) (exported : Bool) (f' : ℕ) : Type 0 where
    f : ℕ
    active : interface_is_active a.features a.unresolved f ≡ true
    place : f' ≡ remapped_interface a f
    i : ℕ
    holds : Holds a.unresolved.worlds w exported i f

  stood : (w : ℕ) (whole : World) → IsActiveWorld a w whole → (b : Bool) (f' : ℕ) (e : Entry) → Contains (entries_of b (world_image (addition_maps a) w (cut a whole))) e → item_interface e.1 ≡ f' ∷ [] → Stood w whole b f'
  stood w whole of false f' e has held =
      let old = Contains-map_cases (entry_image (addition_maps a) w) (cut a whole).imports e has in
      let takes = import_is_active a shaped image w whole of old.0 old.1 in
      let is = image_interface a w old.0.1 f' takes.1 (ap (λ (e : Entry). item_interface e.1) old.2 ∙ held) in
      let spot = place_of whole.imports old.0 takes.0 in
      record { f = is.0; active = is.3; place = is.2; i = spot.0; holds = record { world = whole; there = of.there; entry = old.0; at = spot.1; held = is.1 } }
  stood w whole of true f' e has held =
      let old = Contains-map_cases (entry_image (addition_maps a) w) (cut a whole).exports e has in
      let takes = export_is_active a shaped image w whole of old.0 old.1 in
      let is = image_interface a w old.0.1 f' takes.1 (ap (λ (e : Entry). item_interface e.1) old.2 ∙ held) in
      let spot = place_of whole.exports old.0 takes.0 in
      record { f = is.0; active = is.3; place = is.2; i = spot.0; holds = record { world = whole; there = of.there; entry = old.0; at = spot.1; held = is.1 } }

  new_side : (w : ℕ) (whole : World) → IsActiveWorld a w whole → (f' : ℕ) (d e : Entry) → is_unnamed new.interfaces f' ≡ true
      → Contains (world_image (addition_maps a) w (cut a whole)).imports d → item_interface d.1 ≡ f' ∷ [] → Contains (world_image (addition_maps a) w (cut a whole)).exports e → item_interface e.1 ≡ f' ∷ [] → ⊥
  new_side w whole of f' d e unnamed has held other held' =
      let x = stood w whole of false f' d has held in
      let y = stood w whole of true f' e other held' in
      let same : y.f ≡ x.f = interfaces_apart a valid shaped image y.f x.f y.active x.active (sym y.place ∙ x.place) in
      let free : is_unnamed a.unresolved.interfaces x.f ≡ true = sym (unnamed_goes x.f x.active) ∙ ap (is_unnamed new.interfaces) (sym x.place) ∙ unnamed in
      let places = unresolved_one x.f w w false true x.i y.i free x.holds (subst (λ (f : ℕ). Holds a.unresolved.worlds w true y.i f) same y.holds) in
      let never = places.1 in
      cc

  one_side : (w' i' j' f' : ℕ) → is_unnamed new.interfaces f' ≡ true → Holds new.worlds w' false i' f' → Holds new.worlds w' true j' f' → ⊥
  one_side w' i' j' f' unnamed x y =
      let same = same_at new.worlds w' w' y.world x.world refl y.there x.there in
      let at : slice_get x.world.exports j' ≡ Some y.entry = subst (λ (world : World). slice_get world.exports j' ≡ Some y.entry) same y.at in
      elim (listed_from a valid shaped image w' x.world x.there) [
        | inl old ↦
            let is = ((good_things a.graph valid).worlds w' x.world old).imports i' x.entry x.at in
            let within = held_within a.graph.interfaces a.graph.types w' x.entry.0 x.entry.1 f' is.is x.held in
            let places = old_one f' w' w' false true i' j' (sym (unnamed_stays f' within) ∙ unnamed) (record { world = x.world; there = old; entry = x.entry; at = x.at; held = x.held })
            (record { world = x.world; there = old; entry = y.entry; at = at; held = y.held }) in
            let never = places.1 in
            cc
        | inr made ↦
            let is = made.2 in
            new_side made.0 made.1 is.of f' x.entry y.entry unnamed (subst (λ (world : World). Contains world.imports x.entry) is.is (contained_at x.world.imports i' x.entry x.at)) x.held
            (subst (λ (world : World). Contains world.exports y.entry) is.is (contained_at x.world.exports j' y.entry at)) y.held
      ]

  -- interfaces without names stay apart
  pub stay_apart : StayApart (sources a) new
  stay_apart = record {
    injective = λ k f e takes other same unnamed. injective k f e takes other same;
    meet = meet;
    one_side = one_side;
  }

  -- the first stage is partially linked
  pub listed_stands : IsSoundSoFar (listed a)
  listed_stands = record {
    items = covered_items (sources a) (listed a) (sources_good a valid shaped image) (stage_inherits a valid shaped image) (stage_covered a valid shaped image);
    references = added_types_acyclic a valid shaped image (listed a).types (listed a).interfaces (listed_parts a);
    uses = added_uses_acyclic a valid shaped image (listed a).types (listed a).interfaces (listed_parts a);
    once = StandsOnceOnly-of_covered (sources a) (listed a) (sources_good a valid shaped image) (stage_inherits a valid shaped image) (stage_covered a valid shaped image) stay_apart one_in;
  }
