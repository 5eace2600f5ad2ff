-- Lists of what is found of each of some things.
use Rattle.std.proofs.Common.{◌≡◌, ◌∙◌, ◌<◌, ℕ, suc, zero, List, [], ◌∷◌, Option, None, Some, get_or, length, map, option_and_then, slice_get, refl, ap, subst}
use Rattle.std.proofs.lemmas.List.{length-map}
use Rattle.std.proofs.lemmas.Option.{slice_get_read}
use Rattle.wit_merge_match.specs.steps.Matched.{AreFound}

-- what is read at a place of a list that is lent stands there
pub stands : {X : Type 0} (xs lent : List X) (i : ℕ) (x : X) → lent ≡ xs → i < length lent → x ≡ get_or lent i x → slice_get xs i ≡ Some x
stands {X} xs lent i x same within is = subst (λ (l : List X). slice_get l i ≡ Some x) same (slice_get_read lent _ i x refl within is)

-- what stands at a place of such a list
pub get_or-map : {X : Type 0} (f : X → Option ℕ) (xs : List X) (i : ℕ) → get_or (map f xs) i None ≡ option_and_then f (slice_get xs i)
get_or-map f [] i = refl
get_or-map f (x ∷ xs) zero = refl
get_or-map f (x ∷ xs) (suc i) = get_or-map f xs i

-- what two look-ups give that give the same of each
pub same_of : {X : Type 0} (f g : X → Option ℕ) (o : Option X) → ((x : X) → f x ≡ g x) → option_and_then f o ≡ option_and_then g o
same_of f g None same = refl
same_of f g (Some x) same = same x

pub found_mapped : {X : Type 0} (f : X → Option ℕ) (found : ℕ → Option ℕ) (xs : List X) (list : List (Option ℕ)) → list ≡ map f xs → ((i : ℕ) → option_and_then f (slice_get xs i) ≡ found i) → AreFound found (length xs) list
found_mapped f found xs list is same = record {
  long = ap length is ∙ length-map xs f;
  each = λ i. ap (λ (l : List (Option ℕ)). get_or l i None) is ∙ get_or-map f xs i ∙ same i;
}
