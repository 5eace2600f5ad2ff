-- Behind an include an interface without a name stands in one place, and the graph stands so far.
use Rattle.std.proofs.Common.{◌≡◌, ◌∙◌, ◌⊎◌, inl, inr, ℕ, ◌<◌, Bool, true, false, not, List, [], ◌∷◌, Option, None, Some, length, slice_get, refl, sym, ap, subst, arith, Contains, is_some}
use Rattle.std.specs.Map.{lookup}
use Rattle.std.specs.Option.{option_map_or}
use Rattle.std.proofs.lemmas.Bool.{cases_Bool, ltb-true}
use Rattle.std.proofs.lemmas.List.{length-map}
use Rattle.wit_values.specs.Table.{HasDistinctKeys}
use Rattle.wit_data.specs.Entries.{Entry, IsImport, is_unnamed, item_interface, entries_of}
use Rattle.wit_data.specs.declared.interface.Interface.{Interface}
use Rattle.wit_data.specs.declared.types.TypeDef.{TypeDef}
use Rattle.wit_data.specs.declared.world.World.{World}
use Rattle.wit_data.specs.declared.world.WorldItem.{WorldItem}
use Rattle.wit_data.specs.declared.world.WorldKey.{WorldKey}
use Rattle.wit_data.specs.declared.world.WorldItem.TheVariants as item
use Rattle.wit_data.specs.declared.world.WorldKey.TheVariants as key
use Rattle.wit_elaboration.specs.Entries.{same_key}
use Rattle.wit_elaboration.specs.facts.SoundFacts.{named_within}
use Rattle.wit_graph_data.specs.declared.graph.Graph.{Graph}
use Rattle.wit_graph_theory.specs.facts.CoveredIsValid.{covered_items}
use Rattle.wit_graph_theory.specs.Cut.{kept_whole}
use Rattle.wit_remap_spec.specs.Kept.{cut_interface}
use Rattle.wit_graph_theory.specs.facts.GoodWorlds.{import_from_export, same_one}
use Rattle.wit_remap_spec.specs.Image.{entry_image, item_image}
use Rattle.wit_graph_theory.specs.facts.ListFacts.{contained_at, get_at, place_of, same_at}
use Rattle.wit_graph_theory.specs.steps.UnnamedOnce.{Holds, Origin, StandsOnceOnly, StayApart}
use Rattle.wit_graph_theory.specs.facts.UnnamedOnceCarried.{StandsOnceOnly-of_covered, named_not}
use Rattle.wit_graph_theory.specs.facts.UnnamedOnceFrom.{cut_has_one_place, unnamed_cut}
use Rattle.wit_link_spec.specs.Include.{belongs_to, new_item}
use Rattle.wit_remap_spec.specs.Joined.{joined_entry, joined_item}
use Rattle.wit_link_spec.specs.facts.Copies.{interface_remapped, interface_stays, interfaces_apart, old_interface_at, world_from}
use Rattle.wit_link_spec.specs.facts.CopiedPart.{copied_part, goes_parts, has_name, named_is}
use Rattle.wit_link_spec.specs.facts.CopiesCarried.{IsUnshadowed, joins_exports, joins_imports}
use Rattle.wit_link_spec.specs.facts.IncludedAcyclic.{included_types_acyclic, included_uses_acyclic}
use Rattle.wit_link_spec.specs.facts.IncludedCovered.{included_covered, included_inherits, sources, sources_good}
use Rattle.wit_link_spec.specs.facts.IncludedWorld.{Including, IsIncluded, brought, is_other, joined_world, maps}
use Rattle.wit_link_spec.specs.facts.JoinedFacts.{from_brought, joined_cases}
use Rattle.wit_link_spec.specs.facts.JoinedItems.{joined_one, new_interface}
use Rattle.wit_link_spec.specs.facts.PartiallyLinked.{IsSoundSoFar}
use Rattle.wit_link_spec.specs.facts.Truth.{or_cases}
use Rattle.wit_link_spec.specs.steps.Parts.{interface_copy}

-- the interface of an import is there
pub held_within : (interfaces : List Interface) (types : List TypeDef) (w : ℕ) (k : WorldKey) (held : WorldItem) (f : ℕ) → IsImport interfaces types w k held → item_interface held ≡ f ∷ [] → f < length interfaces
held_within interfaces types w (key.Interface j) (item.Interface i stability docs span external_id) f is held =
    let same : i ≡ f = same_one i f held in
    subst (λ (x : ℕ). x < length interfaces) (sym is.0 ∙ same) (named_within interfaces j is.1)
held_within interfaces types w (key.Name n) (item.Interface i stability docs span external_id) f is held = subst (λ (x : ℕ). x < length interfaces) (same_one i f held) is
held_within interfaces types w k (item.Function fn) f is held = cc
held_within interfaces types w k (item.Type_ t span) f is held = cc

module _ (g : Graph) (stands : IsSoundSoFar g) (i : Including g) (new : Graph) (are : IsIncluded g i new) (free : IsUnshadowed g i) where
  unnamed_stays : (f : ℕ) → f < length g.interfaces → is_unnamed new.interfaces f ≡ is_unnamed g.interfaces f
  unnamed_stays f within =
      let there = get_at g.interfaces f within in
      let test = λ (o : Option Interface). option_map_or (λ (interface : Interface). not (is_some interface.name)) o false in
      ap test (old_interface_at g stands i new are f there.0 there.1) ∙ sym (ap test there.1)

  distinct : (w : ℕ) (b : Bool) (world : World) → slice_get g.worlds w ≡ Some world → HasDistinctKeys (entries_of b world)
  distinct w false world at = (stands.items.worlds w world at).distinct_imports
  distinct w true world at = (stands.items.worlds w world at).distinct_exports

  one_in : (b : Bool) → StandsOnceOnly (sources g stands i b).graph.interfaces (sources g stands i b).graph.worlds
  one_in false = cut_has_one_place (kept_whole g) g.interfaces g.worlds stands.once distinct
  one_in true = cut_has_one_place (copied_part g i.from i.old) g.interfaces g.worlds stands.once distinct

  in_range : (b : Bool) (f : ℕ) → (sources g stands i b).interfaces f ≡ true → f < length g.interfaces
  in_range false f takes = ltb-true f (length g.interfaces) takes
  in_range true f takes =
      let within = (sources_good g stands i true).closed.interfaces_in_range f takes in
      let long = length-map g.interfaces (cut_interface (copied_part g i.from i.old)) in
      omega arith

  injective : (b : Bool) (f e : ℕ) → (sources g stands i b).interfaces f ≡ true → (sources g stands i b).interfaces e ≡ true → (sources g stands i b).maps.interfaces f ≡ (sources g stands i b).maps.interfaces e → f ≡ e
  injective false f e takes other same = same
  injective true f e takes other same = interfaces_apart g stands i f e (in_range true f takes) (in_range true e other) same

  -- a copy and what stood don't meet
  never_meet : (f' w' v' : ℕ) (c d : WorldKey) → Origin (sources g stands i false) f' w' c → Origin (sources g stands i true) f' v' d → ⊥
  never_meet f' w' v' c d x y =
      let low = in_range false x.f x.takes in
      let p = x.place in
      let q = y.place in
      let unnamed : is_unnamed g.interfaces y.f ≡ true = sym (unnamed_cut (copied_part g i.from i.old) g.interfaces g.worlds stands.once y.f) ∙ y.unnamed in
      elim (or_cases (belongs_to g i.old y.f) (has_name g.interfaces y.f) y.takes) [
        | inl goes ↦ let high = interface_remapped g stands i y.f goes in omega arith
        | inr named ↦ named_not g.interfaces y.f (named_is g.interfaces y.f named) unnamed
      ]

  meet : (f' w' v' : ℕ) (c d : WorldKey) (k l : Bool) → is_unnamed new.interfaces f' ≡ true → Origin (sources g stands i k) f' w' c → Origin (sources g stands i l) f' v' d → (k ≡ l) ⊎ ((w' ≡ v') × (c ≡ d))
  meet f' w' v' c d false false unnamed x y = inl refl
  meet f' w' v' c d true true unnamed x y = inl refl
  meet f' w' v' c d false true unnamed x y = absurd (never_meet f' w' v' c d x y)
  meet f' w' v' c d true false unnamed x y = absurd (never_meet f' v' w' d c y x)

  -- ---- on one side

  -- where an interface of a joined list stood: in that list, or in that of the world that is included
  record Stood (b : Bool) (f' : ℕ) : Type 0 where
    w : ℕ
    f : ℕ
    k : ℕ
    holds : Holds g.worlds w b k f
    is : ((w ≡ i.into) × (f' ≡ f)) ⊎ ((w ≡ i.from) × (f' ≡ interface_copy g i.old f))

  joined_interface : (news : List Entry) (e : Entry) → item_interface (joined_entry (is_other g i) news e).1 ≡ item_interface e.1
  joined_interface news e = by (lookup (same_key e.0) news)
    where
      by : (o : Option WorldItem) → item_interface (option_map_or (λ (from : WorldItem). joined_item (is_other g i) from e.1) o e.1) ≡ item_interface e.1
      by None = refl
      by (Some from) = joined_one (is_other g i) from e.1

  image_interface : (held : WorldItem) (f' : ℕ) → item_interface (item_image (maps g i) i.from held) ≡ f' ∷ [] → (f : ℕ) × (item_interface held ≡ f ∷ []) × (f' ≡ interface_copy g i.old f)
  image_interface (item.Interface j stability docs span external_id) f' is = (j, refl, sym (same_one (interface_copy g i.old j) f' is))
  image_interface (item.Function fn) f' is = cc
  image_interface (item.Type_ t span) f' is = cc

  stood_kept : (b : Bool) (f' : ℕ) (news : List Entry) (e d : Entry) → Contains (entries_of b i.host) e → joined_entry (is_other g i) news e ≡ d → item_interface d.1 ≡ f' ∷ [] → Stood b f'
  stood_kept b f' news e d has is held =
      let place = place_of (entries_of b i.host) e has in
      record {
        w = i.into;
        f = f';
        k = place.0;
        holds = record { world = i.host; there = i.host_at; entry = e; at = place.1; held = sym (joined_interface news e) ∙ ap (λ (x : Entry). item_interface x.1) is ∙ held };
        is = inl (refl, refl);
      }

  stood_brought : (b : Bool) (f' : ℕ) (o e d : Entry) → Contains (entries_of b i.old) o → entry_image (maps g i) i.from o ≡ e → d ≡ (e.0, new_item (is_other g i) e.0 e.1) → item_interface d.1 ≡ f' ∷ [] → Stood b f'
  stood_brought b f' o e d has image is held =
      let place = place_of (entries_of b i.old) o has in
      let at_e : item_interface e.1 ≡ f' ∷ [] = sym (new_interface (is_other g i) e.0 e.1) ∙ ap (λ (x : Entry). item_interface x.1) (sym is) ∙ held in
      let old = image_interface o.1 f' (ap (λ (x : Entry). item_interface x.1) image ∙ at_e) in
      record {
        w = i.from;
        f = old.0;
        k = place.0;
        holds = record { world = i.old; there = i.old_at; entry = o; at = place.1; held = old.1 };
        is = inr (refl, old.2);
      }

  stood : (b : Bool) (f' : ℕ) (d : Entry) → Contains (entries_of b (joined_world g i)) d → item_interface d.1 ≡ f' ∷ [] → Stood b f'
  stood false f' d has held =
      elim (joined_cases g stands i i.host.imports i.old.imports (joins_imports g stands i free) (is_other g i) d has) [
        | inl stays ↦ stood_kept false f' (brought g i i.old.imports) stays.0 d stays.1 stays.2 held
        | inr made ↦ let old = from_brought g stands i i.host.imports i.old.imports (joins_imports g stands i free) made.0 made.1 in stood_brought false f' old.0 made.0 d old.1 old.2 made.3 held
      ]
  stood true f' d has held =
      elim (joined_cases g stands i i.host.exports i.old.exports (joins_exports g stands i free) (is_other g i) d has) [
        | inl stays ↦ stood_kept true f' (brought g i i.old.exports) stays.0 d stays.1 stays.2 held
        | inr made ↦ let old = from_brought g stands i i.host.exports i.old.exports (joins_exports g stands i free) made.0 made.1 in stood_brought true f' old.0 made.0 d old.1 old.2 made.3 held
      ]

  holds_within : (w : ℕ) (b : Bool) (k f : ℕ) → Holds g.worlds w b k f → f < length g.interfaces
  holds_within w false k f h = held_within g.interfaces g.types w h.entry.0 h.entry.1 f ((stands.items.worlds w h.world h.there).imports k h.entry h.at).is h.held
  holds_within w true k f h =
      held_within g.interfaces g.types w h.entry.0 h.entry.1 f (import_from_export g.interfaces g.types w h.entry.0 h.entry.1 ((stands.items.worlds w h.world h.there).exports k h.entry h.at).is) h.held

  -- one interface doesn't stand on both sides
  both_sides : (f w v k l : ℕ) → is_unnamed g.interfaces f ≡ true → Holds g.worlds w false k f → Holds g.worlds v true l f → ⊥
  both_sides f w v k l unnamed first second = let places = stands.once f w v false true k l unnamed first second in let never = places.1 in cc

  -- nor in two worlds
  two_worlds : (f k l : ℕ) (b c : Bool) → is_unnamed g.interfaces f ≡ true → Holds g.worlds i.into b k f → Holds g.worlds i.from c l f → ⊥
  two_worlds f k l b c unnamed first second = i.apart (sym (stands.once f i.into i.from b c k l unnamed first second).0)

  -- where one stands that isn't copied
  copy_unnamed : (f f' : ℕ) → f < length g.interfaces → f' ≡ interface_copy g i.old f → is_unnamed new.interfaces f' ≡ true → is_unnamed g.interfaces f ≡ true
  copy_unnamed f f' within place unnamed = elim (cases_Bool (belongs_to g i.old f)) [
    | inl goes ↦ (goes_parts g i.old f goes).0
    | inr left ↦ sym (unnamed_stays f within) ∙ ap (is_unnamed new.interfaces) (sym (place ∙ interface_stays g stands i f left)) ∙ unnamed
  ]

  mixed : (f' f k l : ℕ) (b c : Bool) → is_unnamed new.interfaces f' ≡ true → Holds g.worlds i.into b k f' → Holds g.worlds i.from c l f → f' ≡ interface_copy g i.old f → ⊥
  mixed f' f k l b c unnamed first second place =
      let low = holds_within i.into b k f' first in
      let within = holds_within i.from c l f second in
      elim (cases_Bool (belongs_to g i.old f)) [
        | inl goes ↦ let high = interface_remapped g stands i f goes in omega arith
        | inr left ↦
            let same : f' ≡ f = place ∙ interface_stays g stands i f left in
            two_worlds f k l b c (copy_unnamed f f' within place unnamed) (subst (Holds g.worlds i.into b k) same first) second
      ]

  joined_side : (f' : ℕ) → is_unnamed new.interfaces f' ≡ true → Stood false f' → Stood true f' → ⊥
  joined_side f' unnamed x y = elim x.is [
    | inl here ↦ elim y.is [
      | inl too ↦
          let first : Holds g.worlds x.w false x.k f' = subst (Holds g.worlds x.w false x.k) (sym here.1) x.holds in
          let second : Holds g.worlds y.w true y.k f' = subst (Holds g.worlds y.w true y.k) (sym too.1) y.holds in
          both_sides f' x.w y.w x.k y.k (sym (unnamed_stays f' (holds_within x.w false x.k f' first)) ∙ unnamed) first second
      | inr copy ↦
          mixed f' y.f x.k y.k false true unnamed (subst (λ (v : ℕ). Holds g.worlds v false x.k f') here.0 (subst (Holds g.worlds x.w false x.k) (sym here.1) x.holds))
          (subst (λ (v : ℕ). Holds g.worlds v true y.k y.f) copy.0 y.holds) copy.1
    ]
    | inr copy ↦ elim y.is [
      | inl here ↦
          mixed f' x.f y.k x.k true false unnamed (subst (λ (v : ℕ). Holds g.worlds v true y.k f') here.0 (subst (Holds g.worlds y.w true y.k) (sym here.1) y.holds))
          (subst (λ (v : ℕ). Holds g.worlds v false x.k x.f) copy.0 x.holds) copy.1
      | inr too ↦
          let within = holds_within x.w false x.k x.f x.holds in
          let same : y.f ≡ x.f = interfaces_apart g stands i y.f x.f (holds_within y.w true y.k y.f y.holds) within (sym too.1 ∙ copy.1) in
          both_sides x.f x.w y.w x.k y.k (copy_unnamed x.f f' within copy.1 unnamed) x.holds (subst (Holds g.worlds y.w true y.k) same y.holds)
    ]
  ]

  one_side : (w' i' j' f' : ℕ) → is_unnamed new.interfaces f' ≡ true → Holds new.worlds w' false i' f' → Holds new.worlds w' true j' f' → ⊥
  one_side w' i' j' f' unnamed x y =
      let same = same_at new.worlds w' w' y.world x.world refl y.there x.there in
      let at : slice_get x.world.exports j' ≡ Some y.entry = subst (λ (world : World). slice_get world.exports j' ≡ Some y.entry) same y.at in
      elim (world_from g stands i new are w' x.world x.there) [
        | inl joined ↦
            let a = stood false f' x.entry (subst (λ (world : World). Contains world.imports x.entry) joined.1 (contained_at x.world.imports i' x.entry x.at)) x.held in
            let b = stood true f' y.entry (subst (λ (world : World). Contains world.exports y.entry) joined.1 (contained_at x.world.exports j' y.entry at)) y.held in
            joined_side f' unnamed a b
        | inr other ↦
            let first : Holds g.worlds w' false i' f' = record { world = x.world; there = other.1; entry = x.entry; at = x.at; held = x.held } in
            let second : Holds g.worlds w' true j' f' = record { world = x.world; there = other.1; entry = y.entry; at = at; held = y.held } in
            both_sides f' w' w' i' j' (sym (unnamed_stays f' (holds_within w' false i' f' first)) ∙ unnamed) first second
      ]

  stay_apart : StayApart (sources g stands i) new
  stay_apart = record { injective = λ b f e takes other same unnamed. injective b f e takes other same; meet = meet; one_side = one_side }

  -- a partially linked graph into which a world is included is partially linked
  pub included_stands : IsSoundSoFar new
  included_stands = record {
    items = covered_items (sources g stands i) new (sources_good g stands i) (included_inherits g stands i new are free) (included_covered g stands i new are free);
    references = included_types_acyclic g stands i new are free;
    uses = included_uses_acyclic g stands i new are free;
    once = StandsOnceOnly-of_covered (sources g stands i) new (sources_good g stands i) (included_inherits g stands i new are free) (included_covered g stands i new are free) stay_apart one_in;
  }
