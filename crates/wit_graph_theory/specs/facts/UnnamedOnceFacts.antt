-- That no unnamed interface has two places is what `StandOnce` says.
use Rattle.std.proofs.Common.{◌≡◌, inl, inr, ℕ, suc, Bool, true, false, List, [], ◌∷◌, ◌++◌, Some, cond, eqb, filter, slice_get, refl, sym, ap, subst, arith, Contains}
use Rattle.std.proofs.lemmas.Bool.{ne_eqb}
use Rattle.std.proofs.lemmas.List.Elements.{filter-append, Contains-append_cases}
use Rattle.std.specs.List.{AllByRecursion, IsDistinct, flat_map}
use Rattle.wit_digraph.specs.facts.MemberFacts.{Contains-cons_cases, Contains-flat_map_cases, Contains-here, Contains-nil, Contains-there}
use Rattle.wit_data.specs.Entries.{Entry, StandOnce, interfaces_of_entries, is_unnamed, item_interface, entries_of}
use Rattle.wit_data.specs.declared.interface.Interface.{Interface}
use Rattle.wit_data.specs.declared.world.World.{World}
use Rattle.wit_data.specs.declared.world.WorldItem.{WorldItem}
use Rattle.wit_data.specs.declared.world.WorldItem.TheVariants as item
use Rattle.wit_elaboration.specs.facts.Filters.{Contains-filter}
use Rattle.wit_graph_theory.specs.steps.UnnamedOnce.{Holds, StandsOnceOnly}
use Rattle.wit_graph_theory.specs.facts.ListFacts.{place_of}

-- ---- distinct lists

all_of : (P : ℕ → Type 0) (xs : List ℕ) → ((y : ℕ) → Contains xs y → P y) → AllByRecursion P xs
all_of P [] each = tt
all_of P (x ∷ xs) each = (each x (Contains-here x xs), all_of P xs (λ y has. each y (Contains-there x y xs has)))

distinct_joined : (xs ys : List ℕ) → IsDistinct eqb xs → IsDistinct eqb ys → ((f : ℕ) → Contains xs f → Contains ys f → ⊥) → IsDistinct eqb (xs ++ ys)
unfolding IsDistinct
distinct_joined [] ys first second apart = second
distinct_joined (x ∷ xs) ys first second apart = (
  all_of (λ y. eqb x y ≡ false) (xs ++ ys) (λ y has. elim (Contains-append_cases xs ys y has) [
    | inl among ↦ of_all xs first.0 y among
    | inr among ↦ ne_eqb x y (λ same. apart x (Contains-here x xs) (subst (Contains ys) (sym same) among))
  ]),
  distinct_joined xs ys first.1 second (λ f one other. apart f (Contains-there x f xs one) other),
)
  where
    of_all : (zs : List ℕ) → AllByRecursion (λ y. eqb x y ≡ false) zs → (y : ℕ) → Contains zs y → eqb x y ≡ false
    of_all [] all y has = absurd (Contains-nil has)
    of_all (z ∷ zs) all y has = elim (Contains-cons_cases z y zs has) [ inl same ↦ subst (λ w. eqb x w ≡ false) same all.0 | inr there ↦ of_all zs all.1 y there ]

-- ---- kept ones of lists of lists

module _ (p : ℕ → Bool) where
  abbrev Once : List ℕ → Type 0
  Once xs = IsDistinct eqb (filter p xs)

  once_joined : (xs ys : List ℕ) → Once xs → Once ys → ((f : ℕ) → p f ≡ true → Contains xs f → Contains ys f → ⊥) → Once (xs ++ ys)
  once_joined xs ys first second apart =
      rw (filter-append p xs ys) (distinct_joined (filter p xs) (filter p ys) first second
      (λ f one other. let a = Contains-filter p xs f one in let b = Contains-filter p ys f other in apart f a.1 a.0 b.0))

  once_flat : {X : Type 0} (h : X → List ℕ) (xs : List X) → ((i : ℕ) (x : X) → slice_get xs i ≡ Some x → Once (h x))
      → ((i j : ℕ) (x y : X) (f : ℕ) → slice_get xs i ≡ Some x → slice_get xs j ≡ Some y → p f ≡ true → Contains (h x) f → Contains (h y) f → i ≡ j) → Once (flat_map h xs)
  unfolding IsDistinct
  once_flat h [] each apart = tt
  once_flat h (x ∷ xs) each apart =
      once_joined (h x) (flat_map h xs) (each 0 x refl)
      (once_flat h xs (λ i. each (suc i)) (λ i j a b f first second is one other. let same = apart (suc i) (suc j) a b f first second is one other in omega arith))
      (λ f is here there.
      let more = Contains-flat_map_cases h xs f there in
      let place = place_of xs more.0 more.1.0 in
      let same = apart 0 (suc place.0) x more.0 f refl place.1 is here more.1.1 in
      omega arith)

-- ---- worlds

-- an item is one interface at most
one_held : (held : WorldItem) (f : ℕ) → Contains (item_interface held) f → item_interface held ≡ f ∷ []
one_held (item.Interface i stability docs span external_id) f has = elim (Contains-cons_cases i f [] has) [ inl same ↦ ap (λ (j : ℕ). j ∷ []) same | inr none ↦ absurd (Contains-nil none) ]
one_held (item.Function fn) f has = absurd (Contains-nil has)
one_held (item.Type_ t span) f has = absurd (Contains-nil has)

once_held : (p : ℕ → Bool) (held : WorldItem) → Once p (item_interface held)
unfolding IsDistinct
once_held p (item.Interface i stability docs span external_id) = by (p i)
  where
    by : (b : Bool) → IsDistinct eqb (cond b (i ∷ []) [])
    by true = (tt, tt)
    by false = tt
once_held p (item.Function fn) = tt
once_held p (item.Type_ t span) = tt

module _ (interfaces : List Interface) (worlds : List World) (one : StandsOnceOnly interfaces worlds) where
  abbrev unnamed : ℕ → Bool
  unnamed = is_unnamed interfaces

  -- what some entries hold, at its place
  held_at : (es : List Entry) (f : ℕ) → Contains (interfaces_of_entries es) f → (i : ℕ) × (e : Entry) × (slice_get es i ≡ Some e) × (item_interface e.1 ≡ f ∷ [])
  held_at es f has =
      let from = Contains-flat_map_cases (λ (e : Entry). item_interface e.1) es f has in
      let place = place_of es from.0 from.1.0 in
      (place.0, from.0, place.1, one_held from.0.1 f from.1.1)

  once_entries : (w : ℕ) (world : World) (b : Bool) → slice_get worlds w ≡ Some world → Once unnamed (interfaces_of_entries (entries_of b world))
  once_entries w world b there =
      once_flat unnamed (λ (e : Entry). item_interface e.1) (entries_of b world) (λ i e on. once_held unnamed e.1)
      (λ i j d e f first second is here other.
      let both = one f w w b b i j is (record { world = world; there = there; entry = d; at = first; held = one_held d.1 f here }) (record { world = world; there = there; entry = e; at = second; held = one_held e.1 f other }) in
      both.2)

  -- what a world holds, at its place
  world_holds : (w : ℕ) (world : World) (f : ℕ) → slice_get worlds w ≡ Some world → Contains (interfaces_of_entries world.imports ++ interfaces_of_entries world.exports) f
      → (b : Bool) × (i : ℕ) × Holds worlds w b i f
  world_holds w world f there has =
      elim (Contains-append_cases (interfaces_of_entries world.imports) (interfaces_of_entries world.exports) f has) [
        | inl among ↦ let at = held_at world.imports f among in (false, at.0, record { world = world; there = there; entry = at.1; at = at.2; held = at.3 })
        | inr among ↦ let at = held_at world.exports f among in (true, at.0, record { world = world; there = there; entry = at.1; at = at.2; held = at.3 })
      ]

  -- interfaces that have one place stand once
  pub StandOnce-from_entries : StandOnce interfaces worlds
  StandOnce-from_entries =
      once_flat unnamed (λ (world : World). interfaces_of_entries world.imports ++ interfaces_of_entries world.exports) worlds
      (λ w world there.
      once_joined unnamed (interfaces_of_entries world.imports) (interfaces_of_entries world.exports) (once_entries w world false there) (once_entries w world true there)
      (λ f is first second.
      let a = held_at world.imports f first in
      let b = held_at world.exports f second in
      let both = one f w w false true a.0 b.0 is (record { world = world; there = there; entry = a.1; at = a.2; held = a.3 }) (record { world = world; there = there; entry = b.1; at = b.2; held = b.3 }) in
      let never : false ≡ true = both.1 in
      cc))
      (λ v w a b f first second is one_held other_held.
      let c = world_holds v a f first one_held in
      let d = world_holds w b f second other_held in
      (one f v w c.0 d.0 c.1 d.1 is c.2 d.2).0)
