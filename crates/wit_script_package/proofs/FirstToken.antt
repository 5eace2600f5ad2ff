-- The first of the parts of a line that are kept.
use Rattle.std.proofs.Common.{◌≡◌, ℕ, zero, suc, ◌<◌, Bool, true, false, cond, List, [], ◌∷◌, Some, length, take, filter, get_or, slice_get, ap, sym, subst, arith}

module _ (keep : List ℕ → Bool) where
  pub first-kept : (all : List (List ℕ)) (n : ℕ) (x : List ℕ) → filter keep (take n all) ≡ [] → n < length all → x ≡ get_or all n x → keep x ≡ true → slice_get (filter keep all) 0 ≡ Some x
  first-kept [] n x none within is kept = absurd (omega arith)
  first-kept (y ∷ ys) zero x none within is kept = let there : keep y ≡ true = subst (λ (z : List ℕ). keep z ≡ true) is kept in rw there (ap Some (sym is))
  first-kept (y ∷ ys) (suc n) x none within is kept = by (keep y) (λ left. first-kept ys n x left (omega arith) is kept) none where
    by : (b : Bool) → (filter keep (take n ys) ≡ [] → slice_get (filter keep ys) 0 ≡ Some x) → cond b (y ∷ filter keep (take n ys)) (filter keep (take n ys)) ≡ []
        → slice_get (cond b (y ∷ filter keep ys) (filter keep ys)) 0 ≡ Some x
    by true rest left = cc
    by false rest left = rest left
