-- What stands once has one place: the way back, for the sources; and a cut keeps it.
use Rattle.std.proofs.Common.{◌≡◌, ◌∙◌, inl, inr, ℕ, zero, suc, Bool, true, false, List, [], ◌∷◌, ◌++◌, Some, eqb, filter, map, slice_get, refl, sym, ap, subst, arith, Contains}
use Rattle.std.proofs.lemmas.List.Elements.{filter-append, Contains-append_left, Contains-append_right}
use Rattle.std.specs.List.{AllByRecursion, IsDistinct, flat_map}
use Rattle.wit_digraph.specs.facts.MemberFacts.{Contains-cons_cases, Contains-flat_map, Contains-here, Contains-nil}
use Rattle.wit_data.specs.Entries.{Entry, StandOnce, interfaces_of_entries, is_unnamed, item_interface, entries_of}
use Rattle.wit_data.specs.declared.interface.Interface.{Interface}
use Rattle.wit_data.specs.declared.world.World.{World}
use Rattle.wit_elaboration.specs.facts.Filters.{Contains-filter, Contains-filtered}
use Rattle.wit_values.specs.Table.{HasDistinctKeys}
use Rattle.wit_remap_spec.specs.Kept.{KeptIds, cut_interface, cut_world}
use Rattle.wit_graph_theory.specs.steps.UnnamedOnce.{Holds, StandsOnceOnly}
use Rattle.wit_graph_theory.specs.facts.CutIsGood.{distinct_kept}
use Rattle.wit_graph_theory.specs.facts.ListFacts.{contained_at, from_map, place_of, same_at}

never : (x : ℕ) → eqb x x ≡ false → ⊥
never x differs = grind (arith, differs)

apart_from : (x : ℕ) (ys : List ℕ) → AllByRecursion (λ y. eqb x y ≡ false) ys → Contains ys x → ⊥
apart_from x [] all has = Contains-nil has
apart_from x (y ∷ ys) all has =
    elim (Contains-cons_cases y x ys has) [
      | inl same ↦ absurd (never x (subst (λ (z : ℕ). eqb x z ≡ false) same all.0))
      | inr there ↦ apart_from x ys all.1 there
    ]

all_parts : (P : ℕ → Type 0) (xs ys : List ℕ) → AllByRecursion P (xs ++ ys) → AllByRecursion P xs × AllByRecursion P ys
all_parts P [] ys all = (tt, all)
all_parts P (x ∷ xs) ys all = let rest = all_parts P xs ys all.1 in ((all.0, rest.0), rest.1)

distinct_parts : (xs ys : List ℕ) → IsDistinct eqb (xs ++ ys) → IsDistinct eqb xs × IsDistinct eqb ys × ((f : ℕ) → Contains xs f → Contains ys f → ⊥)
unfolding IsDistinct
distinct_parts [] ys all = (tt, all, λ f has other. Contains-nil has)
distinct_parts (x ∷ xs) ys all =
    let here = all_parts (λ y. eqb x y ≡ false) xs ys all.0 in
    let rest = distinct_parts xs ys all.1 in
    ((here.0, rest.0), rest.1, λ f has other. elim (Contains-cons_cases x f xs has) [ inl same ↦ apart_from x ys here.1 (subst (Contains ys) (sym same) other) | inr there ↦ rest.2 f there other ])

module _ (p : ℕ → Bool) where
  abbrev Once : List ℕ → Type 0
  Once xs = IsDistinct eqb (filter p xs)

  once_parts : (xs ys : List ℕ) → Once (xs ++ ys) → Once xs × Once ys × ((f : ℕ) → p f ≡ true → Contains xs f → Contains ys f → ⊥)
  once_parts xs ys all =
      let parts = distinct_parts (filter p xs) (filter p ys) (subst (IsDistinct eqb) (filter-append p xs ys) all) in
      (parts.0, parts.1, λ f is has other. parts.2 f (Contains-filtered p xs f has is) (Contains-filtered p ys f other is))

  module _ {X : Type 0} (h : X → List ℕ) where
    once_each : (xs : List X) → Once (flat_map h xs) → (i : ℕ) (x : X) → slice_get xs i ≡ Some x → Once (h x)
    once_each [] all i x at = cc
    once_each (y ∷ xs) all zero x at = let same : y ≡ x = cc in subst (λ (z : X). Once (h z)) same (once_parts (h y) (flat_map h xs) all).0
    once_each (y ∷ xs) all (suc i) x at = once_each xs (once_parts (h y) (flat_map h xs) all).1 i x at

    once_place : (xs : List X) → Once (flat_map h xs) → (i j : ℕ) (x y : X) (f : ℕ) → slice_get xs i ≡ Some x → slice_get xs j ≡ Some y → p f ≡ true → Contains (h x) f → Contains (h y) f → i ≡ j
    once_place [] all i j x y f first second is one other = cc
    once_place (z ∷ xs) all zero zero x y f first second is one other = refl
    once_place (z ∷ xs) all zero (suc j) x y f first second is one other =
        let same : z ≡ x = cc in
        absurd ((once_parts (h z) (flat_map h xs) all).2 f is (subst (λ (v : X). Contains (h v) f) (sym same) one) (Contains-flat_map h xs y f (contained_at xs j y second) other))
    once_place (z ∷ xs) all (suc i) zero x y f first second is one other =
        let same : z ≡ y = cc in
        absurd ((once_parts (h z) (flat_map h xs) all).2 f is (subst (λ (v : X). Contains (h v) f) (sym same) other) (Contains-flat_map h xs x f (contained_at xs i x first) one))
    once_place (z ∷ xs) all (suc i) (suc j) x y f first second is one other = ap suc (once_place xs (once_parts (h z) (flat_map h xs) all).1 i j x y f first second is one other)

module _ (interfaces : List Interface) (worlds : List World) (once : StandOnce interfaces worlds) where
  abbrev unnamed : ℕ → Bool
  unnamed = is_unnamed interfaces

  abbrev world_held : World → List ℕ
  world_held world = interfaces_of_entries world.imports ++ interfaces_of_entries world.exports

  held_in : (es : List Entry) (i : ℕ) (e : Entry) (f : ℕ) → slice_get es i ≡ Some e → item_interface e.1 ≡ f ∷ [] → Contains (interfaces_of_entries es) f
  held_in es i e f at is = Contains-flat_map (λ (e : Entry). item_interface e.1) es e f (contained_at es i e at) (subst (λ (ids : List ℕ). Contains ids f) (sym is) (Contains-here f []))

  among : (w : ℕ) (b : Bool) (i f : ℕ) → (h : Holds worlds w b i f) → Contains (interfaces_of_entries (entries_of b h.world)) f
  among w b i f h = held_in (entries_of b h.world) i h.entry f h.at h.held

  in_world : (world : World) (b : Bool) (f : ℕ) → Contains (interfaces_of_entries (entries_of b world)) f → Contains (world_held world) f
  in_world world false f has = Contains-append_left (interfaces_of_entries world.imports) (interfaces_of_entries world.exports) f has
  in_world world true f has = Contains-append_right (interfaces_of_entries world.imports) (interfaces_of_entries world.exports) f has

  one_side : (w : ℕ) (world : World) (b c : Bool) (f : ℕ) → slice_get worlds w ≡ Some world → unnamed f ≡ true → Contains (interfaces_of_entries (entries_of b world)) f → Contains (interfaces_of_entries (entries_of c world)) f → b ≡ c
  one_side w world false false f there is first second = refl
  one_side w world true true f there is first second = refl
  one_side w world false true f there is first second = absurd ((once_parts unnamed (interfaces_of_entries world.imports) (interfaces_of_entries world.exports) (once_each unnamed world_held worlds once w world there)).2 f is first second)
  one_side w world true false f there is first second = absurd ((once_parts unnamed (interfaces_of_entries world.imports) (interfaces_of_entries world.exports) (once_each unnamed world_held worlds once w world there)).2 f is second first)

  once_list : (w : ℕ) (world : World) (b : Bool) → slice_get worlds w ≡ Some world → Once unnamed (interfaces_of_entries (entries_of b world))
  once_list w world false there = (once_parts unnamed (interfaces_of_entries world.imports) (interfaces_of_entries world.exports) (once_each unnamed world_held worlds once w world there)).0
  once_list w world true there = (once_parts unnamed (interfaces_of_entries world.imports) (interfaces_of_entries world.exports) (once_each unnamed world_held worlds once w world there)).1

  -- what stands once has one place
  pub StandsOnceOnly-from_once : StandsOnceOnly interfaces worlds
  StandsOnceOnly-from_once f w w' b b' i i' is first second =
      let one = among w b i f first in
      let other = among w' b' i' f second in
      let place = once_place unnamed world_held worlds once w w' first.world second.world f first.there second.there is (in_world first.world b f one) (in_world second.world b' f other) in
      let world = same_at worlds w w' first.world second.world place first.there second.there in
      let other_here : Contains (interfaces_of_entries (entries_of b' first.world)) f = subst (λ (v : World). Contains (interfaces_of_entries (entries_of b' v)) f) (sym world) other in
      let side = one_side w first.world b b' f first.there is one other_here in
      let lists : entries_of b' second.world ≡ entries_of b first.world = λ k. entries_of (sym side k) (sym world k) in
      let at : slice_get (entries_of b first.world) i' ≡ Some second.entry = subst (λ (es : List Entry). slice_get es i' ≡ Some second.entry) lists second.at in (
        place,
        side,
        once_place unnamed (λ (e : Entry). item_interface e.1) (entries_of b first.world) (once_list w first.world b first.there) i i' first.entry second.entry f first.at at is
            (subst (λ (ids : List ℕ). Contains ids f) (sym first.held) (Contains-here f [])) (subst (λ (ids : List ℕ). Contains ids f) (sym second.held) (Contains-here f [])),
      )

-- ---- the cut

module _ (kept : KeptIds) (interfaces : List Interface) (worlds : List World) (one : StandsOnceOnly interfaces worlds) where
  pub unnamed_cut : (f : ℕ) → is_unnamed (map (cut_interface kept) interfaces) f ≡ is_unnamed interfaces f
  unnamed_cut f = by interfaces f
    where
      by : (xs : List Interface) (i : ℕ) → is_unnamed (map (cut_interface kept) xs) i ≡ is_unnamed xs i
      by [] i = refl
      by (x ∷ xs) zero = refl
      by (x ∷ xs) (suc i) = by xs i

  entries_cut : (b : Bool) (world : World) → entries_of b (cut_world kept world) ≡ filter (λ (e : Entry). kept.items e.1) (entries_of b world)
  entries_cut false world = refl
  entries_cut true world = refl

  -- a place in the cut is a place before it, of the same entry
  before : (w : ℕ) (b : Bool) (i f : ℕ) (h : Holds (map (cut_world kept) worlds) w b i f) → (world : World) × (slice_get worlds w ≡ Some world) × (cut_world kept world ≡ h.world) × (j : ℕ) × (slice_get (entries_of b world) j ≡ Some h.entry)
  before w b i f h =
      let from = from_map (cut_world kept) worlds w h.world h.there in
      let here : Contains (entries_of b (cut_world kept from.0)) h.entry = subst (λ (v : World). Contains (entries_of b v) h.entry) (sym from.2) (contained_at (entries_of b h.world) i h.entry h.at) in
      let old = Contains-filter (λ (e : Entry). kept.items e.1) (entries_of b from.0) h.entry (subst (λ (es : List Entry). Contains es h.entry) (entries_cut b from.0) here) in
      let place = place_of (entries_of b from.0) h.entry old.0 in
      (from.0, from.1, from.2, place.0, place.1)

  pub cut_has_one_place : ((w : ℕ) (b : Bool) (world : World) → slice_get worlds w ≡ Some world → HasDistinctKeys (entries_of b world))
      → StandsOnceOnly (map (cut_interface kept) interfaces) (map (cut_world kept) worlds)
  cut_has_one_place distinct f w w' b b' i i' is first second =
      let a = before w b i f first in
      let c = before w' b' i' f second in
      let places = one f w w' b b' a.3 c.3 (sym (unnamed_cut f) ∙ is) (record { world = a.0; there = a.1; entry = first.entry; at = a.4; held = first.held }) (record { world = c.0; there = c.1; entry = second.entry; at = c.4; held = second.held }) in
      let world = same_at worlds w w' a.0 c.0 places.0 a.1 c.1 in
      let lists : entries_of b' c.0 ≡ entries_of b a.0 = λ k. entries_of (sym places.1 k) (sym world k) in
      let at : slice_get (entries_of b a.0) c.3 ≡ Some second.entry = subst (λ (es : List Entry). slice_get es c.3 ≡ Some second.entry) lists c.4 in
      let entry = same_at (entries_of b a.0) a.3 c.3 first.entry second.entry places.2 a.4 at in
      let kept_list : List Entry = filter (λ (e : Entry). kept.items e.1) (entries_of b a.0) in
      let first_at : slice_get kept_list i ≡ Some first.entry = subst (λ (es : List Entry). slice_get es i ≡ Some first.entry) (ap (entries_of b) (sym a.2) ∙ entries_cut b a.0) first.at in
      let to_kept : entries_of b' second.world ≡ kept_list = ap (entries_of b') (sym c.2) ∙ entries_cut b' c.0 ∙ ap (filter (λ (e : Entry). kept.items e.1)) lists in
      let second_at : slice_get kept_list i' ≡ Some second.entry = subst (λ (es : List Entry). slice_get es i' ≡ Some second.entry) to_kept second.at in
      (places.0, places.1, distinct_kept (λ (e : Entry). kept.items e.1) (entries_of b a.0) (distinct w b a.0 a.1) i i' first.entry second.entry first_at second_at (ap (λ (e : Entry). e.0) entry))
