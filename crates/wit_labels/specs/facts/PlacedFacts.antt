-- What a list of a world has after its setters are placed: the entries that it had, each once.
use Rattle.std.proofs.Common.{◌≡◌, ◌∙◌, ◌⊎◌, inl, inr, ℕ, zero, suc, Bool, true, false, cond, List, [], ◌∷◌, Some, slice_get, refl, ap, sym, subst, Contains}
use Rattle.std.specs.List.{list_any}
use Rattle.wit_values.specs.facts.Lists.{HasDistinctKeys-nil, HasDistinctKeys-one}
use Rattle.wit_values.specs.Table.{HasDistinctKeys}
use Rattle.wit_digraph.specs.facts.MemberFacts.{Contains-cons_cases, Contains-here, Contains-nil, Contains-there}
use Rattle.wit_data.specs.Entries.{Entry}
use Rattle.wit_labels.specs.Setters.{is_getter_of, put_behind, setters_placed}

-- ---- one element put behind another

module _ {X : Type 0} (passes : X → Bool) (x : X) where
  pub put_has : (xs : List X) (y : X) → Contains (put_behind passes x xs) y → (x ≡ y) ⊎ Contains xs y
  put_has [] y has = Contains-cons_cases x y [] has
  put_has (z ∷ zs) y has = by (passes z) has (put_has zs y)
    where
      later : (x ≡ y) ⊎ Contains zs y → (x ≡ y) ⊎ Contains (z ∷ zs) y
      later (inl same) = inl same
      later (inr there) = inr (Contains-there z y zs there)

      by : (b : Bool) → Contains (cond b (z ∷ x ∷ zs) (z ∷ put_behind passes x zs)) y → (Contains (put_behind passes x zs) y → (x ≡ y) ⊎ Contains zs y) → (x ≡ y) ⊎ Contains (z ∷ zs) y
      by true has rest = elim (Contains-cons_cases z y (x ∷ zs) has) [
        | inl same ↦ inr (subst (Contains (z ∷ zs)) same (Contains-here z zs))
        | inr there ↦ later (Contains-cons_cases x y zs there)
      ]
      by false has rest = elim (Contains-cons_cases z y (put_behind passes x zs) has) [
        | inl same ↦ inr (subst (Contains (z ∷ zs)) same (Contains-here z zs))
        | inr there ↦ later (rest there)
      ]

  pub put_in : (xs : List X) → Contains (put_behind passes x xs) x
  put_in [] = Contains-here x []
  put_in (z ∷ zs) = by (passes z) (put_in zs)
    where
      by : (b : Bool) → Contains (put_behind passes x zs) x → Contains (cond b (z ∷ x ∷ zs) (z ∷ put_behind passes x zs)) x
      by true rest = Contains-there z x (x ∷ zs) (Contains-here x zs)
      by false rest = Contains-there z x (put_behind passes x zs) rest

  pub put_keeps : (xs : List X) (y : X) → Contains xs y → Contains (put_behind passes x xs) y
  put_keeps [] y has = absurd (Contains-nil has)
  put_keeps (z ∷ zs) y has = by (passes z) (Contains-cons_cases z y zs has) (put_keeps zs y)
    where
      by : (b : Bool) → (z ≡ y) ⊎ Contains zs y → (Contains zs y → Contains (put_behind passes x zs) y) → Contains (cond b (z ∷ x ∷ zs) (z ∷ put_behind passes x zs)) y
      by true (inl same) rest = subst (Contains (z ∷ x ∷ zs)) same (Contains-here z (x ∷ zs))
      by true (inr there) rest = Contains-there z y (x ∷ zs) (Contains-there x y zs there)
      by false (inl same) rest = subst (Contains (z ∷ put_behind passes x zs)) same (Contains-here z (put_behind passes x zs))
      by false (inr there) rest = Contains-there z y (put_behind passes x zs) (rest there)

-- ---- keys

module _ {K V : Type 0} where
  contained_at : (es : List (K × V)) (i : ℕ) (e : K × V) → slice_get es i ≡ Some e → Contains es e
  contained_at [] i e at = cc
  contained_at (d ∷ es) zero e at = let same : d ≡ e = cc in subst (Contains (d ∷ es)) same (Contains-here d es)
  contained_at (d ∷ es) (suc i) e at = Contains-there d e es (contained_at es i e at)

  one_apart : (d : K × V) (es : List (K × V)) → HasDistinctKeys es → ((e : K × V) → Contains es e → d.0 ≡ e.0 → ⊥) → HasDistinctKeys (d ∷ es)
  one_apart d es rest new zero zero e f first second same = refl
  one_apart d es rest new zero (suc j) e f first second same =
      let one : d ≡ e = cc in
      absurd (new f (contained_at es j f second) (ap (λ (x : K × V). x.0) one ∙ same))
  one_apart d es rest new (suc i) zero e f first second same =
      let one : d ≡ f = cc in
      absurd (new e (contained_at es i e first) (ap (λ (x : K × V). x.0) one ∙ sym same))
  one_apart d es rest new (suc i) (suc j) e f first second same = ap suc (rest i j e f first second same)

  first_apart : (d : K × V) (es : List (K × V)) → HasDistinctKeys (d ∷ es) → (e : K × V) → Contains es e → d.0 ≡ e.0 → ⊥
  first_apart d es distinct e has same = let at = place_of es e has in let one : 0 ≡ suc at.0 = distinct 0 (suc at.0) d e refl at.1 same in zero_first one
    where
      zero_first : {n : ℕ} → 0 ≡ suc n → ⊥
      zero_first is = cc

      place_of : (xs : List (K × V)) (x : K × V) → Contains xs x → (i : ℕ) × (slice_get xs i ≡ Some x)
      place_of [] x has = absurd (Contains-nil has)
      place_of (y ∷ ys) x has = elim (Contains-cons_cases y x ys has) [
        | inl same ↦ (0, ap (λ (z : K × V). Some z) same)
        | inr there ↦ let rest = place_of ys x there in (suc rest.0, rest.1)
      ]

  rest_apart : (d : K × V) (es : List (K × V)) → HasDistinctKeys (d ∷ es) → HasDistinctKeys es
  rest_apart d es distinct i j e f first second same = suc_same (distinct (suc i) (suc j) e f first second same)
    where
      suc_same : {m n : ℕ} → suc m ≡ suc n → m ≡ n
      suc_same is = cc

  put_apart : (passes : K × V → Bool) (d : K × V) (es : List (K × V)) → HasDistinctKeys es → ((e : K × V) → Contains es e → d.0 ≡ e.0 → ⊥) → HasDistinctKeys (put_behind passes d es)
  put_apart passes d [] distinct new = HasDistinctKeys-one d
  put_apart passes d (z ∷ zs) distinct new = by (passes z) (put_apart passes d zs (rest_apart z zs distinct) (λ e has. new e (Contains-there z e zs has)))
    where
      apart : (e : K × V) → (d ≡ e) ⊎ Contains zs e → z.0 ≡ e.0 → ⊥
      apart e (inl is) same = new z (Contains-here z zs) (ap (λ (x : K × V). x.0) is ∙ sym same)
      apart e (inr there) same = first_apart z zs distinct e there same

      by : (b : Bool) → HasDistinctKeys (put_behind passes d zs) → HasDistinctKeys (cond b (z ∷ d ∷ zs) (z ∷ put_behind passes d zs))
      by true rest =
          one_apart z (d ∷ zs) (one_apart d zs (rest_apart z zs distinct) (λ e has. new e (Contains-there z e zs has)))
          (λ e has. apart e (Contains-cons_cases d e zs has))
      by false rest = one_apart z (put_behind passes d zs) rest (λ e has. apart e (put_has passes d zs e has))

-- ---- setters

-- what stands there stood there
pub placed_in : (es : List Entry) (e : Entry) → Contains (setters_placed es) e → Contains es e
placed_in [] e has = has
placed_in (d ∷ es) e has = among (by (list_any (is_getter_of d) es) has) (placed_in es e)
  where
    among : (d ≡ e) ⊎ Contains (setters_placed es) e → (Contains (setters_placed es) e → Contains es e) → Contains (d ∷ es) e
    among (inl same) rest = subst (Contains (d ∷ es)) same (Contains-here d es)
    among (inr there) rest = Contains-there d e es (rest there)

    by : (b : Bool) → Contains (cond b (put_behind (is_getter_of d) d (setters_placed es)) (d ∷ setters_placed es)) e → (d ≡ e) ⊎ Contains (setters_placed es) e
    by true has = put_has (is_getter_of d) d (setters_placed es) e has
    by false has = Contains-cons_cases d e (setters_placed es) has

-- what stood there stays
pub placed_into : (es : List Entry) (e : Entry) → Contains es e → Contains (setters_placed es) e
placed_into [] e has = has
placed_into (d ∷ es) e has = by (list_any (is_getter_of d) es) (Contains-cons_cases d e es has) (placed_into es e)
  where
    by : (b : Bool) → (d ≡ e) ⊎ Contains es e → (Contains es e → Contains (setters_placed es) e) → Contains (cond b (put_behind (is_getter_of d) d (setters_placed es)) (d ∷ setters_placed es)) e
    by true (inl same) rest = subst (Contains (put_behind (is_getter_of d) d (setters_placed es))) same (put_in (is_getter_of d) d (setters_placed es))
    by true (inr there) rest = put_keeps (is_getter_of d) d (setters_placed es) e (rest there)
    by false (inl same) rest = subst (Contains (d ∷ setters_placed es)) same (Contains-here d (setters_placed es))
    by false (inr there) rest = Contains-there d e (setters_placed es) (rest there)

-- keys that differed differ
pub placed_distinct : (es : List Entry) → HasDistinctKeys es → HasDistinctKeys (setters_placed es)
placed_distinct [] distinct = HasDistinctKeys-nil
placed_distinct (d ∷ es) distinct = by (list_any (is_getter_of d) es) (placed_distinct es (rest_apart d es distinct))
  where
    new : (e : Entry) → Contains (setters_placed es) e → d.0 ≡ e.0 → ⊥
    new e has same = first_apart d es distinct e (placed_in es e has) same

    by : (b : Bool) → HasDistinctKeys (setters_placed es) → HasDistinctKeys (cond b (put_behind (is_getter_of d) d (setters_placed es)) (d ∷ setters_placed es))
    by true rest = put_apart (is_getter_of d) d (setters_placed es) rest new
    by false rest = one_apart d (setters_placed es) rest new
