-- Rising ids that are just those that are active are the places of what is taken.
use Rattle.std.proofs.Common.{◌≡◌, ◌∙◌, ℕ, suc, ◌+◌, ◌<◌, inl, inr, Bool, true, false, List, [], ◌∷◌, Option, None, Some, Contains, is_some, length, nat_eq, option_map, slice_get, unwrap_or, refl, sym, ap, arith, if◌then◌else◌}
use Rattle.std.specs.List.{list_any}
use Rattle.std.specs.List.Sorted.{IsStrictlySortedBy}
use Rattle.std.specs.Map.{keys_of, lookup}
use Rattle.std.specs.Ordering.{nat_cmp}
use Rattle.std.proofs.lemmas.Bool.{cases_lt, false≢true}
use Rattle.std.proofs.lemmas.List.{length-map}
use Rattle.std.proofs.lemmas.Option.{slice_get-map}
use Rattle.wit_digraph.specs.facts.FreshFacts.{any_from_contains, contains_from_any}
use Rattle.wit_digraph.specs.facts.MemberFacts.{Contains-cons_cases, Contains-here, Contains-nil, Contains-there}
use Rattle.wit_graph_theory.specs.facts.ListFacts.{contained_at, place_of}
use Rattle.wit_link_spec.specs.facts.RankFacts.{rank-monotone, selected_with_index-at, selected_with_index-from}
use Rattle.wit_remap_spec.specs.Selected.{rank, selected, selected_with_index}
use Rattle.wit_link_include.specs.steps.Included.{goes, numbered, places}
use Rattle.wit_link_include.proofs.RisingIds.{numbered-at, numbered-none, rises}

abbrev Rise : List ℕ → Type 0
Rise xs = (i j a b : ℕ) → i < j → slice_get xs i ≡ Some a → slice_get xs j ≡ Some b → a < b

-- rising lists of the same members are the same
same_rising : (xs ys : List ℕ) → Rise xs → Rise ys → ((x : ℕ) → Contains xs x → Contains ys x) → ((x : ℕ) → Contains ys x → Contains xs x) → xs ≡ ys
same_rising [] [] up down to back = refl
same_rising [] (y ∷ ys) up down to back = absurd (Contains-nil (back y (Contains-here y ys)))
same_rising (x ∷ xs) [] up down to back = absurd (Contains-nil (to x (Contains-here x xs)))
same_rising (x ∷ xs) (y ∷ ys) up down to back =
    let above : (z : ℕ) → Contains xs z → x < z = λ z has. let at = place_of xs z has in up 0 (suc at.0) x z (omega arith) refl at.1 in
    let below : (z : ℕ) → Contains ys z → y < z = λ z has. let at = place_of ys z has in down 0 (suc at.0) y z (omega arith) refl at.1 in
    let heads : x ≡ y = elim (Contains-cons_cases y x ys (to x (Contains-here x xs))) [
      | inl same ↦ sym same
      | inr there ↦ elim (Contains-cons_cases x y xs (back y (Contains-here y ys))) [
        | inl same ↦ same
        | inr other ↦ let one = below x there in let two = above y other in absurd (omega arith)
      ]
    ] in
    let tails : xs ≡ ys = same_rising xs ys
    (λ i j a b before at_i at_j. up (suc i) (suc j) a b (omega arith) at_i at_j)
    (λ i j a b before at_i at_j. down (suc i) (suc j) a b (omega arith) at_i at_j)
    (λ z has. elim (Contains-cons_cases y z ys (to z (Contains-there x z xs has))) [
      | inl same ↦ let one = above z has in absurd (omega arith)
      | inr there ↦ there
    ])
    (λ z has. elim (Contains-cons_cases x z xs (back z (Contains-there y z ys has))) [
      | inl same ↦ let one = below z has in absurd (omega arith)
      | inr there ↦ there
    ]) in
    cc

module _ {X : Type 0} (kept : ℕ → Bool) (xs : List X) where
  taken_at : (k i : ℕ) → slice_get (places kept xs) k ≡ Some i → (x : X) × (slice_get (selected_with_index kept xs) k ≡ Some (i, x))
  taken_at k i at = by (slice_get (selected_with_index kept xs) k) refl
    where
      mapped : slice_get (places kept xs) k ≡ option_map (λ (e : ℕ × X). e.0) (slice_get (selected_with_index kept xs) k)
      mapped = slice_get-map (λ (e : ℕ × X). e.0) (selected_with_index kept xs) k

      by : (o : Option (ℕ × X)) → slice_get (selected_with_index kept xs) k ≡ o → (x : X) × (slice_get (selected_with_index kept xs) k ≡ Some (i, x))
      by None none = let no : None ≡ Some i = sym (mapped ∙ ap (option_map (λ (e : ℕ × X). e.0)) none) ∙ at in cc
      by (Some e) there = let same : Some e.0 ≡ Some i = sym (mapped ∙ ap (option_map (λ (e : ℕ × X). e.0)) there) ∙ at in
          let first : e.0 ≡ i = cc in (e.1, there ∙ ap (λ (n : ℕ). Some (n, e.1)) first)

  -- what stands at a place that is taken
  pub place_from : (k i : ℕ) → slice_get (places kept xs) k ≡ Some i → (x : X) × (slice_get xs i ≡ Some x) × (slice_get (selected kept xs) k ≡ Some x) × (kept i ≡ true) × (k ≡ rank kept i)
  place_from k i at =
      let found = taken_at k i at in
      let from = selected_with_index-from kept xs k (i, found.0) found.1 in
      (found.0, from.0, slice_get-map (λ (e : ℕ × X). e.1) (selected_with_index kept xs) k ∙ ap (option_map (λ (e : ℕ × X). e.1)) found.1, from.1, from.2)

  pub place_at : (i : ℕ) (x : X) → slice_get xs i ≡ Some x → kept i ≡ true → slice_get (places kept xs) (rank kept i) ≡ Some i
  place_at i x at is = slice_get-map (λ (e : ℕ × X). e.0) (selected_with_index kept xs) (rank kept i) ∙ ap (option_map (λ (e : ℕ × X). e.0)) (selected_with_index-at kept xs i x at is)

  places_rise : Rise (places kept xs)
  places_rise i j a b before at_i at_j =
      let one = place_from i a at_i in
      let two = place_from j b at_j in
      let rank_a = one.4 in
      let rank_b = two.4 in
      elim (cases_lt a b) [
        | inl less ↦ less
        | inr above ↦ let le = rank-monotone kept b a (omega arith) in absurd (omega arith)
      ]

  module _ (there : (i : ℕ) → kept i ≡ true → (x : X) × (slice_get xs i ≡ Some x)) where
    in_places : (i : ℕ) → kept i ≡ true → Contains (places kept xs) i
    in_places i is = let at = there i is in contained_at (places kept xs) (rank kept i) i (place_at i at.0 at.1 is)

    kept_in : (i : ℕ) → Contains (places kept xs) i → kept i ≡ true
    kept_in i has = let at = place_of (places kept xs) i has in (place_from at.0 i at.1).3

    -- rising ids of just what is kept
    pub are_places : (ids : List ℕ) → IsStrictlySortedBy nat_cmp ids → ((i : ℕ) → list_any (nat_eq i) ids ≡ kept i) → ids ≡ places kept xs
    are_places ids sorted members =
        same_rising ids (places kept xs) (λ i j a b before at_i at_j. rises ids i j a b sorted before at_i at_j) places_rise
        (λ i has. in_places i (sym (members i) ∙ any_from_contains i ids has))
        (λ i has. contains_from_any i ids (members i ∙ kept_in i has))

    -- where what is kept goes
    pub goes_where : (n i : ℕ) → goes (numbered n (places kept xs)) i ≡ (if kept i then n + rank kept i else i)
    goes_where n i = by (kept i) refl
      where
        first : (j y : ℕ) → kept i ≡ true → j < rank kept i → slice_get (places kept xs) j ≡ Some y → y ≡ i → ⊥
        first j y is before at same = let from = place_from j y at in let ranked = from.4 in let e = ap (rank kept) same in omega arith

        by : (b : Bool) → kept i ≡ b → goes (numbered n (places kept xs)) i ≡ (if kept i then n + rank kept i else i)
        by true is =
            let at = there i is in
            ap (λ (o : Option ℕ). unwrap_or o i) (numbered-at n (places kept xs) (rank kept i) i (λ j y before at_j same. first j y is before at_j same) (place_at i at.0 at.1 is))
            ∙ sym (ap (λ (b : Bool). if b then n + rank kept i else i) is)
        by false is =
            ap (λ (o : Option ℕ). unwrap_or o i) (numbered-none n (places kept xs) i (λ has. false≢true (sym is ∙ kept_in i has)))
            ∙ sym (ap (λ (b : Bool). if b then n + rank kept i else i) is)

    -- what is kept is among the keys
    pub told_where : (n i : ℕ) → is_some (lookup (nat_eq i) (numbered n (places kept xs))) ≡ kept i
    told_where n i = by (kept i) refl
      where
        by : (b : Bool) → kept i ≡ b → is_some (lookup (nat_eq i) (numbered n (places kept xs))) ≡ kept i
        by true is =
            let at = there i is in
            ap (λ (o : Option ℕ). is_some o) (numbered-at n (places kept xs) (rank kept i) i (λ j y before at_j same. let from = place_from j y at_j in let ranked = from.4 in let e = ap (rank kept) same in omega arith) (place_at i at.0 at.1 is))
            ∙ sym is
        by false is =
            ap (λ (o : Option ℕ). is_some o) (numbered-none n (places kept xs) i (λ has. false≢true (sym is ∙ kept_in i has))) ∙ sym is

-- ---- a table of which the keys are the places of what is taken: the key at a place

key_at : (table : List (ℕ × ℕ)) (i k v : ℕ) → slice_get table i ≡ Some (k, v) → slice_get (keys_of table) i ≡ Some k
key_at table i k v at = slice_get-map (λ (e : ℕ × ℕ). e.0) table i ∙ ap (option_map (λ (e : ℕ × ℕ). e.0)) at

pub key_below : (table : List (ℕ × ℕ)) (n i k v : ℕ) → ((t : ℕ) → Contains (keys_of table) t → t < n) → slice_get table i ≡ Some (k, v) → k < n
key_below table n i k v below at = below k (contained_at (keys_of table) i k (key_at table i k v at))

-- what it names is taken at its place
pub key_takes : {X : Type 0} (kept : ℕ → Bool) (xs : List X) (table : List (ℕ × ℕ)) (i k v : ℕ) (x : X) → keys_of table ≡ places kept xs → slice_get table i ≡ Some (k, v) → slice_get xs k ≡ Some x
    → slice_get (selected kept xs) i ≡ Some x
key_takes kept xs table i k v x keys at there =
    let found = place_from kept xs i k (ap (λ (ks : List ℕ). slice_get ks i) (sym keys) ∙ key_at table i k v at) in
    found.2 ∙ (sym found.1 ∙ there)

-- as much is taken as it names
pub takes_all : {X : Type 0} (kept : ℕ → Bool) (xs : List X) (table : List (ℕ × ℕ)) → keys_of table ≡ places kept xs → length (selected kept xs) ≡ length table
takes_all {X} kept xs table keys =
    length-map (selected_with_index kept xs) (λ (e : ℕ × X). e.1)
    ∙ (sym (length-map (selected_with_index kept xs) (λ (e : ℕ × X). e.0)) ∙ (ap (λ (ks : List ℕ). length ks) (sym keys) ∙ length-map table (λ (e : ℕ × ℕ). e.0)))
