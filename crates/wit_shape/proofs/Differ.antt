-- Names of the things after the foreign ones: of the first ones and one more, and one that stands again.
use Rattle.std.proofs.Common.{◌≡◌, ◌∙◌, ℕ, ◌<◌, ◌≤◌, ◌+◌, ◌⊎◌, inl, inr, List, [], ◌∷◌, ◌++◌, drop, take, get_or, length, length-append, length-take, slice_get, Some, refl, ap, sym, subst, arith}
use Rattle.std.specs.Prelude.{Contains, bytes_eq}
use Rattle.std.specs.List.{IsDistinct}
use Rattle.std.proofs.lemmas.List.{drop-append-le, drop_all, drop_more, get_or_at, take-append-drop, take_at}
use Rattle.std.proofs.lemmas.Option.{get_or_from_slice_get, slice_get-get_or, slice_get_within}
use Rattle.std.proofs.lemmas.Slice.Eq.{bytes_eq-Decides}
use Rattle.wit_digraph.specs.facts.MemberFacts.{Contains-nil}
use Rattle.wit_values.specs.facts.Lists.{take-next_at}
use Rattle.wit_shape.specs.facts.DistinctFacts.{met_twice}

below_or : (a b : ℕ) → (a < b) ⊎ (b ≤ a)
below_or a b = grind arith

module _ {X : Type 0} (names : List X → List (List ℕ)) (empty : names [] ≡ []) (parts : (a b : List X) → names (a ++ b) ≡ names a ++ names b) where
  -- none of the foreign ones counts
  pub none_yet : (foreign : ℕ) (xs : List X) (i : ℕ) → i ≤ foreign → names (drop foreign (take i xs)) ≡ []
  none_yet foreign xs i first =
      let short = length-take i xs in
      let none : drop foreign (take i xs) ≡ [] = drop_all foreign (take i xs) (omega arith) in
      ap names none ∙ empty

  -- one more of the others
  pub one_more : (foreign : ℕ) (xs : List X) (i : ℕ) (x : X) → foreign ≤ i → slice_get xs i ≡ Some x → names (drop foreign (take (i + 1) xs)) ≡ names (drop foreign (take i xs)) ++ names (x ∷ [])
  one_more foreign xs i x past at =
      let within : i < length xs = slice_get_within xs i x at in
      let short = length-take i xs in
      let fits : foreign ≤ length (take i xs) = omega arith in
      ap (λ (l : List X). names (drop foreign l)) (take-next_at xs i x at) ∙ ap names (drop-append-le foreign (take i xs) (x ∷ []) fits) ∙ parts (drop foreign (take i xs)) (x ∷ [])

  -- the names before one, its own, and those behind it
  split : (xs : List X) (i : ℕ) (x : X) → slice_get xs i ≡ Some x → take i xs ++ (x ∷ drop (i + 1) xs) ≡ xs
  split xs i x at =
      let within : i < length xs = slice_get_within xs i x at in
      let here : get_or xs i x ≡ x = get_or_from_slice_get xs i x x at in
      let more : drop i xs ≡ get_or xs i x ∷ drop (i + 1) xs = drop_more xs i x within in
      ap (λ (l : List X). take i xs ++ l) (sym (more ∙ ap (λ (y : X). y ∷ drop (i + 1) xs) here)) ∙ take-append-drop i xs

  all_are : (foreign : ℕ) (xs : List X) (i : ℕ) (x : X) (name : List ℕ) → slice_get xs i ≡ Some x → ((rest : List X) → names (x ∷ rest) ≡ name ∷ names rest) → foreign ≤ i
      → names (drop foreign xs) ≡ names (drop foreign (take i xs)) ++ (name ∷ names (drop (i + 1) xs))
  all_are foreign xs i x name at called past =
      let within : i < length xs = slice_get_within xs i x at in
      let short = length-take i xs in
      let fits : foreign ≤ length (take i xs) = omega arith in
      ap (λ (l : List X). names (drop foreign l)) (sym (split xs i x at)) ∙ ap names (drop-append-le foreign (take i xs) (x ∷ drop (i + 1) xs) fits)
      ∙ parts (drop foreign (take i xs)) (x ∷ drop (i + 1) xs) ∙ ap (λ (l : List (List ℕ)). names (drop foreign (take i xs)) ++ l) (called (drop (i + 1) xs))

  twice : (foreign : ℕ) (xs : List X) (i : ℕ) (x : X) (name : List ℕ) → slice_get xs i ≡ Some x → ((rest : List X) → names (x ∷ rest) ≡ name ∷ names rest)
      → IsDistinct bytes_eq (names (drop foreign xs)) → Contains (names (drop foreign (take i xs))) name → foreign ≤ i → ⊥
  twice foreign xs i x name at called apart has past =
      let before : List (List ℕ) = names (drop foreign (take i xs)) in
      let behind : List (List ℕ) = names (drop (i + 1) xs) in
      let all : List (List ℕ) = before ++ (name ∷ behind) in
      let long = length-append before (name ∷ behind) in
      let within : length before < length all = omega arith in
      let here : slice_get all (length before) ≡ Some name = slice_get-get_or all (length before) name within ∙ ap (λ (y : List ℕ). Some y) (get_or_at before name behind name (length before) refl) in
      met_twice bytes_eq-Decides all (length before) name here
      (subst (λ (l : List (List ℕ)). Contains l name) (sym (take_at before (name ∷ behind) (length before) refl)) has)
      (subst (λ (l : List (List ℕ)). IsDistinct bytes_eq l) (all_are foreign xs i x name at called past) apart)

  -- a name that those before it have
  pub stands_again : (foreign : ℕ) (xs : List X) (i : ℕ) (x : X) (name : List ℕ) → slice_get xs i ≡ Some x → ((rest : List X) → names (x ∷ rest) ≡ name ∷ names rest)
      → IsDistinct bytes_eq (names (drop foreign xs)) → Contains (names (drop foreign (take i xs))) name → ⊥
  stands_again foreign xs i x name at called apart has =
      elim (below_or i foreign) [
        | inl early ↦ let first : i ≤ foreign = omega arith in Contains-nil (subst (λ (l : List (List ℕ)). Contains l name) (none_yet foreign xs i first) has)
        | inr past ↦ twice foreign xs i x name at called apart has past
      ]
