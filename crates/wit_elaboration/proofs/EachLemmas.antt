-- What holds of each element of a list that is written out.
use Rattle.std.proofs.Common.{◌≡◌, ◌∙◌, ℕ, zero, suc, true, false, List, [], ◌∷◌, ap, sym, subst, refl, arith, Contains}
use Rattle.std.proofs.lemmas.Bool.{false≢true}
use Rattle.std.specs.Cmp.Lexicographic.{nat_list_eq_equiv}
use Rattle.std.specs.Str.{bytes_eq}
use Rattle.wit_data.specs.Each.{EachAt}
use Rattle.wit_values.specs.Table.{HasDistinctKeys}

module _ {X : Type 0} where
  pub EachAt-nil : (P : ℕ → X → Type 0) → EachAt P []
  EachAt-nil P i x at = cc

  pub EachAt-cons : (P : ℕ → X → Type 0) (x : X) (xs : List X) → P 0 x → EachAt (λ i. P (suc i)) xs → EachAt P (x ∷ xs)
  EachAt-cons P x xs here rest zero y at = let same : x ≡ y = cc in subst (P 0) same here
  EachAt-cons P x xs here rest (suc i) y at = rest i y at

  pub EachAt-one : (P : ℕ → X → Type 0) (x : X) → P 0 x → EachAt P (x ∷ [])
  EachAt-one P x here = EachAt-cons P x [] here (EachAt-nil (λ i. P (suc i)))

  pub EachAt-two : (P : ℕ → X → Type 0) (x y : X) → P 0 x → P 1 y → EachAt P (x ∷ y ∷ [])
  EachAt-two P x y first second = EachAt-cons P x (y ∷ []) first (EachAt-one (λ i. P (suc i)) y second)

module _ {K V : Type 0} where
  pub HasDistinctKeys-nil : HasDistinctKeys {K = K} {V = V} []
  HasDistinctKeys-nil i j e f first second same = cc

  pub HasDistinctKeys-one : (e : K × V) → HasDistinctKeys (e ∷ [])
  HasDistinctKeys-one e zero zero f g first second same = refl
  HasDistinctKeys-one e zero (suc j) f g first second same = cc
  HasDistinctKeys-one e (suc i) j f g first second same = cc

  pub HasDistinctKeys-two : (e f : K × V) → (e.0 ≡ f.0 → ⊥) → HasDistinctKeys (e ∷ f ∷ [])
  HasDistinctKeys-two e f differ zero zero a b first second same = refl
  HasDistinctKeys-two e f differ zero (suc zero) a b first second same = let x : e ≡ a = cc in let y : f ≡ b = cc in absurd (differ (ap (λ (p : K × V). p.0) x ∙ same ∙ sym (ap (λ (p : K × V). p.0) y)))
  HasDistinctKeys-two e f differ zero (suc (suc j)) a b first second same = cc
  HasDistinctKeys-two e f differ (suc zero) zero a b first second same = let x : f ≡ a = cc in let y : e ≡ b = cc in absurd (differ (ap (λ (p : K × V). p.0) y ∙ sym same ∙ sym (ap (λ (p : K × V). p.0) x)))
  HasDistinctKeys-two e f differ (suc zero) (suc zero) a b first second same = refl
  HasDistinctKeys-two e f differ (suc zero) (suc (suc j)) a b first second same = cc
  HasDistinctKeys-two e f differ (suc (suc i)) j a b first second same = cc

-- texts that a test tells apart are different
pub differ_by_test : (a b : List ℕ) → bytes_eq a b ≡ false → a ≡ b → ⊥
differ_by_test a b other same = false≢true (sym other ∙ subst (λ (z : List ℕ). bytes_eq a z ≡ true) same (nat_list_eq_equiv.refl a))

-- nothing is in the empty list
pub none_in : {X : Type 0} (x : X) → Contains [] x → ⊥
none_in x inside = absurd (omega (arith, inside.1))
