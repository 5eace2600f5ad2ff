-- What a look-up in a table tells of its entries, and lists that are the same so far.
use Rattle.std.proofs.Common.{◌≡◌, ◌∙◌, ℕ, ◌+◌, Bool, true, false, List, [], ◌∷◌, ◌++◌, Some, None, slice_get, take, refl, sym, ap, subst}
use Rattle.std.specs.Prelude.{◌↔◌, Contains, Decides}
use Rattle.std.specs.Cmp.{IsEquivalence}
use Rattle.std.specs.List.{IsDistinct}
use Rattle.std.specs.Map.{keys_of, lookup}
use Rattle.std.proofs.lemmas.Bool.Decides.{Decides-like, same_from_decides}
use Rattle.std.proofs.lemmas.Map.Views.{Contains-from_lookup, lookup-from_Contains}
use Rattle.wit_values.specs.facts.Lists.{take-next_at}

module _ {K : Type 0} {eq : K → K → Bool} (same : (a b : K) → Decides (eq a b) (a ≡ b)) where
  equivalence : IsEquivalence eq
  equivalence = record {
    refl = λ j. (same j j).1 refl;
    symm = λ j k. same_from_decides (eq j k) (eq k j) (same j k) (Decides-like _ (λ h. sym h) (λ h. sym h) (same k j));
    congr = λ j k l equal. ap (λ (m : K). eq m l) ((same j k).0 equal);
  }

module _ {K V : Type 0} {eq : K → K → Bool} (same : (a b : K) → Decides (eq a b) (a ≡ b)) where
  -- what a look-up finds is what stands there
  pub is_found : (es : List (K × V)) (k : K) (v w : V) → IsDistinct eq (keys_of es) → lookup (eq k) es ≡ Some v → (v ≡ w) ↔ Contains es (k, w)
  is_found es k v w apart found = (
    λ equal. subst (λ (x : V). Contains es (k, x)) equal (Contains-from_lookup (λ x y passes. (same x y).0 passes) k v es found),
    λ has.
        let other : lookup (eq k) es ≡ Some w = lookup-from_Contains (equivalence same) k w es apart has in
        let both : Some v ≡ Some w = sym found ∙ other in
        cc,
  )

  -- where it finds nothing, nothing stands there
  pub none_found : (es : List (K × V)) (k : K) (w : V) → IsDistinct eq (keys_of es) → lookup (eq k) es ≡ None → (false ≡ true) ↔ Contains es (k, w)
  none_found es k w apart none = (
    λ h. cc,
    λ has. let found : lookup (eq k) es ≡ Some w = lookup-from_Contains (equivalence same) k w es apart has in cc,
  )

-- lists that begin alike, and the next element is the same
pub next_same : {X : Type 0} (xs ys : List X) (i : ℕ) (x y : X) → slice_get xs i ≡ Some x → slice_get ys i ≡ Some y → x ≡ y → take i xs ≡ take i ys → take (i + 1) xs ≡ take (i + 1) ys
next_same xs ys i x y first second same before = take-next_at xs i x first ∙ (λ k. before k ++ same k ∷ []) ∙ sym (take-next_at ys i y second)
