-- Classes: the steps to the leader of one, and two that are made one.
use Rattle.std.proofs.Common.{◌≡◌, ◌∙◌, ℕ, ◌<◌, ◌≤◌, zero, suc, List, [], ◌∷◌, ◌++◌, inl, inr, length, Some, None, slice_get, slice_set, refl, sym, ap, subst, arith}
use Rattle.std.proofs.lemmas.Option.{slice_get_within}
use Rattle.wit_values.specs.facts.Lists.{push-cases, set-cases}
use Rattle.wit_merge_match.specs.steps.Classes.{AreSame, IsDescending}
use Rattle.wit_merge_spec.specs.Structure.{Feature}

-- each thing has itself so far
pub record AreOwn (leaders : List ℕ) : Type 0 where
  pub each : (i j : ℕ) → slice_get leaders i ≡ Some j → j ≡ i

pub none_own : AreOwn []
none_own = record { each = λ i j at. (cc) }

pub push_own : (leaders : List ℕ) → AreOwn leaders → AreOwn (leaders ++ length leaders ∷ [])
push_own leaders own = record {
  each = λ i j at. elim (push-cases leaders (length leaders) i j at) [ inl old ↦ own.each i j old | inr new ↦ new.1 ∙ sym new.0 ];
}

pub own_descending : (leaders : List ℕ) → AreOwn leaders → IsDescending leaders
own_descending leaders own i j at = omega (arith, own.each i j at)

pub own_same : (leaders : List ℕ) → AreOwn leaders → (f : ℕ → List Feature) → AreSame f leaders
own_same leaders own f i j at = ap f (sym (own.each i j at))

-- a thing is given another one of its class, with no larger number
pub set_descending : (leaders : List ℕ) (i j : ℕ) → IsDescending leaders → j ≤ i → IsDescending (slice_set leaders i j)
set_descending leaders i j descending below k x at =
    elim (set-cases leaders i j k x at) [ inl new ↦ omega (arith, new.0, new.1, below) | inr old ↦ descending k x old ]

pub set_same : (f : ℕ → List Feature) (leaders : List ℕ) (i j : ℕ) → AreSame f leaders → f i ≡ f j → AreSame f (slice_set leaders i j)
set_same f leaders i j same one k x at =
    elim (set-cases leaders i j k x at) [ inl new ↦ ap f new.0 ∙ (one ∙ ap f (sym new.1)) | inr old ↦ same k x old ]

pub set_long : (leaders : List ℕ) (i j : ℕ) → length (slice_set leaders i j) ≡ length leaders
set_long [] i j = refl
set_long (x ∷ leaders) zero j = refl
set_long (x ∷ leaders) (suc i) j = ap suc (set_long leaders i j)
