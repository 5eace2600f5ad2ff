-- Lists whose elements differ.
use Rattle.std.proofs.Common.{◌≡◌, ℕ, ◌<◌, Bool, List, [], ◌∷◌, ◌++◌, length, get_or, take, Some, slice_get, subst, sym, ◌∙◌, arith, length-take}
use Rattle.std.specs.Prelude.{Contains, ◌≢◌, Decides}
use Rattle.std.specs.List.{IsDistinct}
use Rattle.std.proofs.lemmas.List.{get_or-take}
use Rattle.std.proofs.lemmas.List.Elements.{Contains-get_or}
use Rattle.std.proofs.lemmas.List.Quantifiers.{all_pairs_push}
use Rattle.std.proofs.lemmas.Map.Made.{AllPairs-from_IsDistinct, IsDistinct-from_AllPairs}
use Rattle.std.proofs.lemmas.Option.{slice_get_within, get_or_from_slice_get}

module _ {K : Type 0} {eq : K → K → Bool} (same : (a b : K) → Decides (eq a b) (a ≡ b)) where
  -- one more that isn't there
  pub apart_push : (xs : List K) (x : K) → IsDistinct eq xs → (Contains xs x → ⊥) → IsDistinct eq (xs ++ x ∷ [])
  apart_push xs x apart new =
      IsDistinct-from_AllPairs same (xs ++ x ∷ [])
      (all_pairs_push (λ y z. y ≢ z) xs x (AllPairs-from_IsDistinct same xs apart) (λ k d within equal. new (subst (λ y. Contains xs y) equal (Contains-get_or xs k d within))))

  -- one that is there before its place
  pub met_twice : (xs : List K) (i : ℕ) (x : K) → slice_get xs i ≡ Some x → Contains (take i xs) x → IsDistinct eq xs → ⊥
  met_twice xs i x at met apart =
      let within : i < length xs = slice_get_within xs i x at in
      let here : get_or xs i x ≡ x = get_or_from_slice_get xs i x x at in
      let short = length-take i xs in
      let earlier : met.0 < i = omega arith in
      let there : get_or xs met.0 x ≡ x = sym (get_or-take i xs met.0 x earlier) ∙ met.2 in
      AllPairs-from_IsDistinct same xs apart met.0 i x earlier within (there ∙ sym here)
