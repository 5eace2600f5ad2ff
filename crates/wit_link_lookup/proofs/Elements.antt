-- The element of a slice that a loop has come to, as one of the list that the slice is of.
use Rattle.std.proofs.Common.{◌≡◌, ◌<◌, ℕ, List, Some, get_or, length, slice_get, subst}
use Rattle.std.proofs.lemmas.Option.{slice_get_read}

pub element_at : {X : Type 0} (xs items : List X) (n i : ℕ) (x : X) → items ≡ xs → n ≡ length items → i < n → x ≡ get_or items i x → slice_get xs i ≡ Some x
element_at {X} xs items n i x same long below is = subst (λ (l : List X). slice_get l i ≡ Some x) same (slice_get_read items n i x long below is)
