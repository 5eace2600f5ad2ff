-- Texts that are made piece by piece.
use Rattle.std.proofs.Common.{◌≡◌, ℕ, suc, zero, ◌+◌, List, [], ◌∷◌, ◌++◌, take, Some, slice_get, ap, sym, ◌∙◌, add-one, append_assoc}
use Rattle.std.proofs.lemmas.List.{append-nil}
use Rattle.std.specs.List.{flat_map}

module _ {X : Type 0} where
  flat_map-suc : (f : X → List ℕ) (xs : List X) (i : ℕ) (x : X) → slice_get xs i ≡ Some x → flat_map f (take (suc i) xs) ≡ flat_map f (take i xs) ++ f x
  flat_map-suc f [] i x at = cc
  flat_map-suc f (y ∷ ys) zero x at = let same : y ≡ x = cc in append-nil (f y) ∙ ap f same
  flat_map-suc f (y ∷ ys) (suc i) x at = ap (λ (l : List ℕ). f y ++ l) (flat_map-suc f ys i x at) ∙ sym (append_assoc (f y) (flat_map f (take i ys)) (f x))

  -- the piece of one more element
  pub flat_map-next : (f : X → List ℕ) (xs : List X) (i : ℕ) (x : X) → slice_get xs i ≡ Some x → flat_map f (take (i + 1) xs) ≡ flat_map f (take i xs) ++ f x
  flat_map-next f xs i x at = rw add-one (flat_map-suc f xs i x at)

-- a text with the pieces so far, and the next piece
pub text-next : {X : Type 0} (f : X → List ℕ) (xs : List X) (i : ℕ) (x : X) (before so_far after : List ℕ) → slice_get xs i ≡ Some x
    → so_far ≡ before ++ flat_map f (take i xs) → after ≡ so_far ++ f x → after ≡ before ++ flat_map f (take (i + 1) xs)
text-next f xs i x before so_far after at had next =
    next ∙ ap (λ (l : List ℕ). l ++ f x) had ∙ append_assoc before (flat_map f (take i xs)) (f x) ∙ ap (λ (l : List ℕ). before ++ l) (sym (flat_map-next f xs i x at))
