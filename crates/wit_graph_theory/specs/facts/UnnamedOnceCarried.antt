-- In a covered graph an unnamed interface has one place, where it had one in each source.
use Rattle.std.proofs.Common.{◌≡◌, ◌∙◌, inl, inr, ℕ, Bool, true, false, List, [], ◌∷◌, Option, Some, slice_get, refl, sym, ap, subst, Contains, IsSome, not, is_some}
use Rattle.std.specs.Option.{option_map_or}
use Rattle.std.proofs.lemmas.List.Elements.{Contains-append_cases}
use Rattle.wit_data.specs.Entries.{Entry, is_unnamed, item_interface, entries_of}
use Rattle.wit_data.specs.Ownership.{IsNamed}
use Rattle.wit_data.specs.declared.interface.Interface.{Interface}
use Rattle.wit_data.specs.declared.world.World.{World}
use Rattle.wit_data.specs.declared.world.WorldItem.{WorldItem}
use Rattle.wit_data.specs.declared.world.WorldKey.{WorldKey}
use Rattle.wit_data.specs.declared.world.WorldItem.TheVariants as item
use Rattle.wit_values.specs.Table.{HasDistinctKeys}
use Rattle.wit_graph_data.specs.declared.graph.Graph.{Graph}
use Rattle.wit_graph_theory.specs.facts.Covered.{EntryComes, IsCovered, IsDependency, ItemComes}
use Rattle.wit_remap_spec.specs.Image.{key_image}
use Rattle.wit_graph_theory.specs.steps.UnnamedOnce.{Holds, Origin, StandsOnceOnly, StayApart}
use Rattle.wit_remap_spec.specs.steps.Kept.{everything}
use Rattle.wit_graph_theory.specs.steps.Sources.{Carries, InterfaceStands, IsGoodSource, ItemIsActive, Source}
use Rattle.wit_graph_theory.specs.facts.GoodWorlds.{same_one}
use Rattle.wit_graph_theory.specs.facts.ListFacts.{found_at, get_at, place_of, same_at}

-- one that stands under another's name has a name if that has one
pub unnamed_same : (xs ys : List Interface) (f f' : ℕ) (x y : Interface) → slice_get xs f ≡ Some x → slice_get ys f' ≡ Some y → y.name ≡ x.name → is_unnamed ys f' ≡ is_unnamed xs f
unnamed_same xs ys f f' x y at at' name =
    ap (λ (o : Option Interface). option_map_or (λ (i : Interface). not (is_some i.name)) o false) at' ∙ ap (λ (n : Option (List ℕ)). not (is_some n)) name
    ∙ sym (ap (λ (o : Option Interface). option_map_or (λ (i : Interface). not (is_some i.name)) o false) at)

pub named_not : (xs : List Interface) (f : ℕ) → IsNamed xs f → is_unnamed xs f ≡ true → ⊥
named_not xs f named = let found = found_at (λ (interface : Interface). IsSome interface.name) xs f named in by found.0 found.1 found.2
  where
    by : (x : Interface) → slice_get xs f ≡ Some x → IsSome x.name → is_unnamed xs f ≡ true → ⊥
    by x at some unnamed =
        let is : is_unnamed xs f ≡ not (is_some x.name) = ap (λ (o : Option Interface). option_map_or (λ (i : Interface). not (is_some i.name)) o false) at in
        not_both (is_some x.name) some (sym is ∙ unnamed)
      where
        not_both : (b : Bool) → b ≡ true → not b ≡ true → ⊥
        not_both true one other = cc
        not_both false one other = cc

-- the old item of one that is an interface is an interface that goes there
old_interface : (s : Source) (w : ℕ) (held new : WorldItem) (f' : ℕ) → ItemIsActive s held → ItemComes s w held new → item_interface new ≡ f' ∷ []
    → (f : ℕ) × (f' ≡ s.maps.interfaces f) × (item_interface held ≡ f ∷ []) × (s.interfaces f ≡ true)
old_interface s w (item.Interface i stability docs span external_id) new f' takes comes is = (i, same_one f' (s.maps.interfaces i) (sym is ∙ comes), refl, takes)
old_interface s w (item.Function f) new f' takes comes is = absurd (none_one (sym (ap item_interface comes.1) ∙ is))
  where
    none_one : [] ≡ f' ∷ [] → ⊥
    none_one h = cc
old_interface s w (item.Type_ t span) new f' takes comes is = absurd (none_one (sym (ap item_interface comes.1) ∙ is))
  where
    none_one : [] ≡ f' ∷ [] → ⊥
    none_one h = cc

module _ {K : Type 0} (at : K → Source) (g : Graph) (good : (k : K) → IsGoodSource (at k)) (carries : (k : K) → Carries (at k) g) (covered : IsCovered everything at g)
    (apart : StayApart at g) (one : (k : K) → StandsOnceOnly (at k).graph.interfaces (at k).graph.worlds) where
  origin_of : (f' w' : ℕ) (e : Entry) → is_unnamed g.interfaces f' ≡ true → item_interface e.1 ≡ f' ∷ [] → EntryComes at w' e → (k : K) × Origin (at k) f' w' e.0
  origin_of f' w' e unnamed is comes =
      let s = at comes.source in
      let from = comes.from in
      let closed = (good comes.source).closed in
      let listed : (b : Bool) × Contains (entries_of b from.old) comes.old × ItemIsActive s comes.old.1 =
      elim (Contains-append_cases from.old.imports from.old.exports comes.old comes.listed) [
        | inl among ↦ (false, among, closed.imports from.w from.old comes.old from.there from.takes among)
        | inr among ↦ (true, among, closed.exports from.w from.old comes.old from.there from.takes among)
      ] in
      let spot = place_of (entries_of listed.0 from.old) comes.old listed.1 in
      let old = old_interface s from.w comes.old.1 e.1 f' listed.2 comes.held is in
      let there = get_at s.graph.interfaces old.0 (closed.interfaces_in_range old.0 old.3) in
      let stands = found_at (InterfaceStands s there.0) g.interfaces (s.maps.interfaces old.0) ((carries comes.source).interfaces old.0 there.0 there.1 old.3) in
      let same = unnamed_same s.graph.interfaces g.interfaces old.0 (s.maps.interfaces old.0) there.0 stands.0 there.1 stands.1 stands.2.name in (
        comes.source,
        record {
          f = old.0;
          takes = old.3;
          place = old.1;
          unnamed = sym same ∙ subst (λ (x : ℕ). is_unnamed g.interfaces x ≡ true) old.1 unnamed;
          w = from.w;
          world_place = from.place;
          b = listed.0;
          i = spot.0;
          holds = record { world = from.old; there = from.there; entry = comes.old; at = spot.1; held = old.2 };
          key = comes.key;
        },
      )

  not_added : (f' : ℕ) (e : Entry) → is_unnamed g.interfaces f' ≡ true → item_interface e.1 ≡ f' ∷ [] → IsDependency g.interfaces e → ⊥
  not_added f' e unnamed is added =
      let same = same_one added.f f' (sym added.held ∙ is) in
      named_not g.interfaces f' (subst (IsNamed g.interfaces) same added.named) unnamed

  origin : (f' w' : ℕ) (b' : Bool) (i' : ℕ) → is_unnamed g.interfaces f' ≡ true → (h : Holds g.worlds w' b' i' f') → (k : K) × Origin (at k) f' w' h.entry.0
  origin f' w' false i' unnamed h =
      elim ((covered.worlds w' h.world h.there refl).imports i' h.entry h.at) [
        | inl comes ↦ origin_of f' w' h.entry unnamed h.held comes
        | inr added ↦ absurd (not_added f' h.entry unnamed h.held added)
      ]
  origin f' w' true i' unnamed h =
      elim ((covered.worlds w' h.world h.there refl).exports i' h.entry h.at) [
        | inl comes ↦ origin_of f' w' h.entry unnamed h.held comes.0
        | inr added ↦ absurd (not_added f' h.entry unnamed h.held added)
      ]

  -- two places over one source are of one world and one key
  same_world : (k : K) (f' w' v' : ℕ) (c d : WorldKey) → Origin (at k) f' w' c → Origin (at k) f' v' d → (w' ≡ v') × (c ≡ d)
  same_world k f' w' v' c d a b =
      let s = at k in
      let same = apart.injective k a.f b.f a.takes b.takes (sym a.place ∙ b.place) a.unnamed in
      let places = one k a.f a.w b.w a.b b.b a.i b.i a.unnamed a.holds (subst (λ (x : ℕ). Holds s.graph.worlds b.w b.b b.i x) (sym same) b.holds) in
      let worlds = same_at s.graph.worlds a.w b.w a.holds.world b.holds.world places.0 a.holds.there b.holds.there in
      let lists : entries_of a.b a.holds.world ≡ entries_of b.b b.holds.world = λ i. entries_of (places.1 i) (worlds i) in
      let entries = same_at (entries_of b.b b.holds.world) a.i b.i a.holds.entry b.holds.entry places.2 (subst (λ (es : List Entry). slice_get es a.i ≡ Some a.holds.entry) lists a.holds.at) b.holds.at in
      (a.world_place ∙ ap s.maps.worlds places.0 ∙ sym b.world_place, a.key ∙ (λ i. key_image s.maps (places.0 i) (entries i).0) ∙ sym b.key)

  same_side : (w' i' j' f' : ℕ) (b c : Bool) → is_unnamed g.interfaces f' ≡ true → Holds g.worlds w' b i' f' → Holds g.worlds w' c j' f' → b ≡ c
  same_side w' i' j' f' false false unnamed first second = refl
  same_side w' i' j' f' true true unnamed first second = refl
  same_side w' i' j' f' false true unnamed first second = absurd (apart.one_side w' i' j' f' unnamed first second)
  same_side w' i' j' f' true false unnamed first second = absurd (apart.one_side w' j' i' f' unnamed second first)

  distinct : (w' : ℕ) (b : Bool) (world : World) → slice_get g.worlds w' ≡ Some world → HasDistinctKeys (entries_of b world)
  distinct w' false world there = (covered.worlds w' world there refl).distinct_imports
  distinct w' true world there = (covered.worlds w' world there refl).distinct_exports

  -- an unnamed interface of a covered graph has one place
  pub StandsOnceOnly-of_covered : StandsOnceOnly g.interfaces g.worlds
  StandsOnceOnly-of_covered f' w' v' b c i' j' unnamed first second =
      let a = origin f' w' b i' unnamed first in
      let d = origin f' v' c j' unnamed second in
      let both : (w' ≡ v') × (first.entry.0 ≡ second.entry.0) =
      elim (apart.meet f' w' v' first.entry.0 second.entry.0 a.0 d.0 unnamed a.1 d.1) [
        | inl source ↦ same_world a.0 f' w' v' first.entry.0 second.entry.0 a.1 (subst (λ (k : K). Origin (at k) f' v' second.entry.0) (sym source) d.1)
        | inr same ↦ same
      ] in
      let moved : Holds g.worlds w' c j' f' = subst (λ (w : ℕ). Holds g.worlds w c j' f') (sym both.0) second in
      let side = same_side w' i' j' f' b c unnamed first moved in
      let worlds = same_at g.worlds w' v' first.world second.world both.0 first.there second.there in
      let lists : entries_of c second.world ≡ entries_of b first.world = λ i. entries_of (sym side i) (sym worlds i) in
      let on : slice_get (entries_of b first.world) j' ≡ Some second.entry = subst (λ (es : List Entry). slice_get es j' ≡ Some second.entry) lists second.at in
      (both.0, side, distinct w' b first.world first.there i' j' first.entry second.entry first.at on both.1)
