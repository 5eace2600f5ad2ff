-- Lists without their first elements.
use Rattle.std.proofs.Common.{◌≡◌, ℕ, zero, suc, List, [], ◌∷◌, Some, slice_get, drop, ap}

-- what is left from a place on begins with what stands there
pub drop_at : {X : Type 0} (xs : List X) (k : ℕ) (x : X) → slice_get xs k ≡ Some x → drop k xs ≡ x ∷ drop (suc k) xs
drop_at [] k x at = cc
drop_at {X} (z ∷ xs) zero x at = let same : z ≡ x = cc in ap (λ (y : X). y ∷ xs) same
drop_at (z ∷ xs) (suc k) x at = drop_at xs k x at
