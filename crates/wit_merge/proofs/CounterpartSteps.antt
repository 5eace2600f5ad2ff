-- Partners of things, the last first.
use Rattle.std.proofs.Common.{◌≡◌, ◌∙◌, ℕ, zero, suc, ◌+◌, ◌<◌, ◌≤◌, inl, inr, get_or, Bool, true, false, List, [], ◌∷◌, map, Option, None, Some, drop, find, length, nat_eq, replicate, slice_get, slice_set, subst, unwrap_or, unwrap_or, refl, sym, ap, arith, if◌then◌else◌}
use Rattle.std.proofs.lemmas.Bool.{cases_Bool, cases_order, eqb-true, false≢true, true≢false, ne_eqb, eq-eqb}
use Rattle.std.proofs.lemmas.List.{drop_all}
use Rattle.std.proofs.lemmas.Option.{none-some, slice_get-get_or, slice_get_past, unwrap_or-slice_get}
use Rattle.std.proofs.lemmas.List.FromFn.{fill_by_all, get_or-map-range_with_len, length-map-range_with_len}
use Rattle.std.specs.List.{enumerate_from, range_with_len}
use Rattle.std.specs.Option.{option_eq, option_map}
use Rattle.wit_link_spec.specs.facts.RangeFacts.{range-same, range-set}
use Rattle.wit_merge_spec.specs.Matches.{counterpart_of}
use Rattle.wit_merge_laws.specs.facts.InterfacesStand.{option_so}
use Rattle.wit_graph_theory.specs.facts.ListFacts.{get_at}
use Rattle.wit_merge.specs.steps.MergeSteps.{first_from, firsts_from, placed_at}
use Rattle.wit_link_spec.specs.facts.DropFacts.{drop_at}

none_from : (f : ℕ → Option ℕ) → ((t : ℕ) → f t ≡ None) → (a n : ℕ) → replicate n None ≡ map f (range_with_len a n)
none_from f none a zero = refl
none_from f none a (suc n) = ap (λ (o : Option ℕ). o ∷ replicate n None) (sym (none a)) ∙ ap (λ (os : List (Option ℕ)). f a ∷ os) (none_from f none (a + 1) n)

-- nothing is matched yet
pub none_yet : (found : List (Option ℕ)) (k count : ℕ) → k ≡ length found → replicate count None ≡ firsts_from k (drop k found) count
none_yet found k count ended =
    none_from (first_from k (drop k found)) (λ t. ap (λ (os : List (Option ℕ)). first_from k os t) (drop_all k found (omega arith))) 0 count

-- the same of the numbers below one
same_below : (f g : ℕ → Option ℕ) (n : ℕ) → ((j : ℕ) → j < n → f j ≡ g j) → map f (range_with_len 0 n) ≡ map g (range_with_len 0 n)
same_below f g n same =
    fill_by_all g (map f (range_with_len 0 n)) n None (length-map-range_with_len f 0 n) (λ t below. get_or-map-range_with_len f 0 n t t None below (omega arith) ∙ same t below)

module _ (found : List (Option ℕ)) (k n count : ℕ) (o : Option ℕ) (next : n ≡ suc k) (at : slice_get found k ≡ Some o) where
  abbrev tells : ℕ → ℕ × Option ℕ → Bool
  tells x' e = option_eq nat_eq e.1 (Some x')

  abbrev chosen : ℕ → Bool → Option ℕ
  chosen x' b = option_map (λ (e : ℕ × Option ℕ). e.0) (if b then Some (k, o) else find (tells x') (enumerate_from (k + 1) (drop (suc k) found)))

  later : (x' : ℕ) → chosen x' false ≡ first_from n (drop n found) x'
  later x' =
      let one : k + 1 ≡ n = omega (arith, next) in
      ap (λ (m : ℕ). option_map (λ (e : ℕ × Option ℕ). e.0) (find (tells x') (enumerate_from m (drop (suc k) found)))) one
      ∙ ap (λ (m : ℕ). option_map (λ (e : ℕ × Option ℕ). e.0) (find (tells x') (enumerate_from n (drop m found)))) (sym next)

  here : (x' : ℕ) (b : Bool) → option_eq nat_eq o (Some x') ≡ b → first_from k (drop k found) x' ≡ chosen x' b
  here x' b is = ap (λ (os : List (Option ℕ)). first_from k os x') (drop_at found k o at) ∙ ap (chosen x') is

  -- one that is matched with x'
  found_here : (x' : ℕ) → option_eq nat_eq o (Some x') ≡ true → first_from k (drop k found) x' ≡ Some k
  found_here x' is = here x' true is

  -- and one that isn't
  found_later : (x' : ℕ) → option_eq nat_eq o (Some x') ≡ false → first_from k (drop k found) x' ≡ first_from n (drop n found) x'
  found_later x' is = here x' false is ∙ later x'

-- one thing more, which is matched with one of those that are counted
pub one_counted : (found : List (Option ℕ)) (k n count x' place : ℕ) (counterparts new : List (Option ℕ)) → n ≡ suc k → slice_get found k ≡ Some (Some x') → place ≡ x' → place < count
    → counterparts ≡ firsts_from n (drop n found) count → new ≡ slice_set counterparts place (Some k) → new ≡ firsts_from k (drop k found) count
one_counted found k n count x' place counterparts new next at same low are set_is =
    set_is ∙ ap (λ (ps : List (Option ℕ)). slice_set ps place (Some k)) are
    ∙ range-set (first_from n (drop n found)) (first_from k (drop k found)) count place (Some k) low
    (λ j other. sym (found_later found k n count (Some x') next at j (ne_eqb x' j (λ (is : x' ≡ j). other (sym is ∙ sym same)))))
    (sym (found_here found k n count (Some x') next at place (eq-eqb x' place (sym same))))

-- with one that isn't counted
pub one_past : (found : List (Option ℕ)) (k n count x' place : ℕ) (counterparts : List (Option ℕ)) → n ≡ suc k → slice_get found k ≡ Some (Some x') → place ≡ x' → count ≤ place
    → counterparts ≡ firsts_from n (drop n found) count → counterparts ≡ firsts_from k (drop k found) count
one_past found k n count x' place counterparts next at same past are =
    are
    ∙ same_below (first_from n (drop n found)) (first_from k (drop k found)) count
    (λ j below. sym (found_later found k n count (Some x') next at j (ne_eqb x' j (λ (is : x' ≡ j). omega (arith, past, below, same, is)))))

-- with none
pub one_unmatched : (found : List (Option ℕ)) (k n count : ℕ) (counterparts : List (Option ℕ)) → n ≡ suc k → slice_get found k ≡ Some None → counterparts ≡ firsts_from n (drop n found) count → counterparts ≡ firsts_from k (drop k found) count
one_unmatched found k n count counterparts next at are = are ∙ range-same (first_from n (drop n found)) (first_from k (drop k found)) count (λ j. sym (found_later found k n count None next at j refl))

-- ---- what a counterpart is

same_some : (o : Option ℕ) (x' : ℕ) → option_eq nat_eq o (Some x') ≡ true → o ≡ Some x'
same_some None x' is = absurd (false≢true is)
same_some (Some y) x' is = ap (λ (z : ℕ). Some z) (eqb-true y x' is)

module _ {X : Type 0} (found : List (Option ℕ)) (xs : List X) (long : length found ≡ length xs) (x' : ℕ) where
  abbrev matched : ℕ × X → Bool
  matched e = option_eq nat_eq (get_or found e.0 None) (Some x')

  abbrev first_of : ℕ → Option ℕ
  first_of k = first_from k (drop k found) x'

  -- the first from place k on, as the thing and as its place
  from_here : (left k : ℕ) → k + left ≡ length xs → placed_at xs (first_of k) ≡ find matched (enumerate_from k (drop k xs))
  from_here zero k ended =
      ap (λ (os : List (Option ℕ)). placed_at xs (first_from k os x')) (drop_all k found (omega (arith, long, ended))) ∙ ap (λ (l : List X). find matched (enumerate_from k l)) (sym (drop_all k xs (omega (arith, ended))))
  from_here (suc left) k more =
      let o : Option ℕ = get_or found k None in
      let at : slice_get found k ≡ Some o = slice_get-get_or found k None (omega (arith, long, more)) in
      let x : (x : X) × (slice_get xs k ≡ Some x) = get_at xs k (omega (arith, more)) in
      elim (cases_Bool (option_eq nat_eq o (Some x'))) [
        | inl is ↦
            ap (placed_at xs) (found_here found k (suc k) 0 o refl at x' is) ∙ ap (option_map (λ (it : X). (k, it))) x.1
            ∙ sym (ap (λ (l : List X). find matched (enumerate_from k l)) (drop_at xs k x.0 x.1) ∙ ap (λ (b : Bool). if b then Some (k, x.0) else find matched (enumerate_from (k + 1) (drop (suc k) xs))) is)
        | inr apart ↦
            ap (placed_at xs) (found_later found k (suc k) 0 o refl at x' apart) ∙ from_here left (suc k) (omega (arith, more))
            ∙ sym (ap (λ (l : List X). find matched (enumerate_from k l)) (drop_at xs k x.0 x.1) ∙ ap (λ (b : Bool). if b then Some (k, x.0) else find matched (enumerate_from (k + 1) (drop (suc k) xs))) apart
            ∙ ap (λ (i : ℕ). find matched (enumerate_from i (drop (suc k) xs))) (let one : k + 1 ≡ suc k = omega arith in one))
      ]

  pub counterpart_is : placed_at xs (first_from 0 found x') ≡ counterpart_of (λ x. get_or found x None) xs x'
  counterpart_is = from_here (length xs) 0 (omega arith)

-- what is told to be the counterpart is matched
module _ (found : List (Option ℕ)) (x' x : ℕ) where
  matched_from : (left k : ℕ) → k + left ≡ length found → first_from k (drop k found) x' ≡ Some x → get_or found x None ≡ Some x'
  matched_from zero k ended is =
      let none : first_from k (drop k found) x' ≡ None = ap (λ (os : List (Option ℕ)). first_from k os x') (drop_all k found (omega (arith, ended))) in
      absurd (none-some x (sym none ∙ is))
  matched_from (suc left) k more is =
      let o : Option ℕ = get_or found k None in
      let at : slice_get found k ≡ Some o = slice_get-get_or found k None (omega (arith, more)) in
      elim (cases_Bool (option_eq nat_eq o (Some x'))) [
        | inl here ↦
            let same : k ≡ x = some_inj (sym (found_here found k (suc k) 0 o refl at x' here) ∙ is) in
            subst (λ (i : ℕ). get_or found i None ≡ Some x') same (same_some o x' here)
        | inr apart ↦ matched_from left (suc k) (omega (arith, more)) (sym (found_later found k (suc k) 0 o refl at x' apart) ∙ is)
      ]
    where
      some_inj : {a b : ℕ} → Some a ≡ Some b → a ≡ b
      some_inj is = cc

  pub is_matched : first_from 0 found x' ≡ Some x → get_or found x None ≡ Some x'
  is_matched is = matched_from (length found) 0 (omega arith) (by found is)
    where
      by : (l : List (Option ℕ)) → first_from 0 l x' ≡ Some x → first_from 0 (drop 0 l) x' ≡ Some x
      by [] is = is
      by (o ∷ l) is = is

-- and where no counterpart is told, nothing is
module _ (found : List (Option ℕ)) (x' : ℕ) where
  none_from_here : (left k : ℕ) → k + left ≡ length found → first_from k (drop k found) x' ≡ None → (j : ℕ) → k ≤ j → get_or found j None ≡ Some x' → ⊥
  none_from_here zero k ended none j past is =
      let over : length found ≤ j = omega (arith, ended, past) in
      none-some x' (sym (get_or_past found j over) ∙ is)
    where
      get_or_past : (l : List (Option ℕ)) (i : ℕ) → length l ≤ i → get_or l i None ≡ None
      get_or_past l i over = sym (unwrap_or-slice_get l i None) ∙ ap (λ (o : Option (Option ℕ)). unwrap_or o None) (slice_get_past l i over)
  none_from_here (suc left) k more none j past is =
      let o : Option ℕ = get_or found k None in
      let at : slice_get found k ≡ Some o = slice_get-get_or found k None (omega (arith, more)) in
      elim (cases_Bool (option_eq nat_eq o (Some x'))) [
        | inl here ↦ none-some k (sym none ∙ found_here found k (suc k) 0 o refl at x' here)
        | inr apart ↦ elim (cases_order k j) [
          | inl same ↦ absurd (true≢false (sym (option_so o x' (ap (λ (i : ℕ). get_or found i None) same ∙ is)) ∙ apart))
          | inr other ↦ none_from_here left (suc k) (omega (arith, more)) (sym (found_later found k (suc k) 0 o refl at x' apart) ∙ none) j (omega (arith, past, other)) is
        ]
      ]

  pub none_matched : first_from 0 found x' ≡ None → (j : ℕ) → get_or found j None ≡ Some x' → ⊥
  none_matched none j is = none_from_here (length found) 0 (omega arith) (by found none) j (omega arith) is
    where
      by : (l : List (Option ℕ)) → first_from 0 l x' ≡ None → first_from 0 (drop 0 l) x' ≡ None
      by [] h = h
      by (o ∷ l) h = h
