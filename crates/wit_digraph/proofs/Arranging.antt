-- Items that leave their slots in an order.
use Rattle.std.proofs.Common.{◌≡◌, ◌∙◌, ◌<◌, ◌≤◌, ◌+◌, ℕ, zero, suc, List, [], ◌∷◌, ◌++◌, length, take, refl, ap, sym, subst, arith, Option, Some, None, map, slice_get, slice_set, get_or, Contains, All, nat_eq}
use Rattle.std.proofs.lemmas.List.{length-map, length-set, take_all}
use Rattle.std.proofs.lemmas.List.Elements.{Contains-append_left, Contains-push}
use Rattle.std.specs.List.{AllZip, IsDistinct}
use Rattle.wit_values.specs.facts.Lists.{take-next_at}
use Rattle.wit_digraph.specs.facts.MemberFacts.{not_before}

module _ {X : Type 0} where
  -- what stands at a place that is there
  pub at_get : (xs : List X) (i : ℕ) (d : X) → i < length xs → slice_get xs i ≡ Some (get_or xs i d)
  at_get [] i d within = absurd (omega arith)
  at_get (x ∷ xs) zero d within = refl
  at_get (x ∷ xs) (suc i) d within = at_get xs i d (omega arith)

  pub some_at : (xs : List X) (i : ℕ) → i < length xs → (x : X) × (slice_get xs i ≡ Some x)
  some_at [] i within = absurd (omega arith)
  some_at (x ∷ xs) zero within = (x, refl)
  some_at (x ∷ xs) (suc i) within = some_at xs i (omega arith)

  slot_at : (xs : List X) (i : ℕ) (x : X) → slice_get xs i ≡ Some x → slice_get (map (λ (y : X). Some y) xs) i ≡ Some (Some x)
  slot_at [] i x at = cc
  slot_at (y ∷ ys) zero x at = ap (λ (o : Option X). Some o) at
  slot_at (y ∷ ys) (suc i) x at = slot_at ys i x at

  -- another place keeps what it has
  kept_at : (xs : List X) (i j : ℕ) (x y : X) → (j ≡ i → ⊥) → slice_get xs j ≡ Some x → slice_get (slice_set xs i y) j ≡ Some x
  kept_at [] i j x y apart at = at
  kept_at (z ∷ zs) zero zero x y apart at = absurd (apart refl)
  kept_at (z ∷ zs) zero (suc j) x y apart at = at
  kept_at (z ∷ zs) (suc i) zero x y apart at = at
  kept_at (z ∷ zs) (suc i) (suc j) x y apart at = kept_at zs i j x y (λ same. apart (ap suc same)) at

module _ {X Y : Type 0} (R : X → Y → Type 0) where
  zip-push : (xs : List X) (ys : List Y) (x : X) (y : Y) → AllZip R xs ys → R x y → AllZip R (xs ++ x ∷ []) (ys ++ y ∷ [])
  zip-push [] [] x y all here = (here, tt)
  zip-push [] (z ∷ zs) x y all here = absurd all
  zip-push (z ∷ zs) [] x y all here = absurd all
  zip-push (w ∷ ws) (z ∷ zs) x y all here = (all.0, zip-push ws zs x y all.1 here)

-- the first n places of the order have given their items, and the other items are in their slots
pub record IsArranging {X : Type 0} (items : List X) (order : List ℕ) (n : ℕ) (slots : List (Option X)) (arranged : List X) : Type 0 where
  pub long : length slots ≡ length items
  pub full : (j : ℕ) (x : X) → slice_get items j ≡ Some x → (Contains (take n order) j → ⊥)
      → slice_get slots j ≡ Some (Some x)
  pub zip : AllZip (λ place (x : X). slice_get items place ≡ Some x) (take n order) arranged

module _ {X : Type 0} (items : List X) (order : List ℕ) where
  pub arranging-none : IsArranging items order 0 (map (λ (x : X). Some x) items) []
  arranging-none = record {
    long = length-map items (λ (x : X). Some x);
    full = λ j x at new. slot_at items j x at;
    zip = tt;
  }

  -- the next place has its item in its slot
  pub arranging-slot : (n : ℕ) (slots : List (Option X)) (arranged : List X) (r : Option X) → IsArranging items order n slots arranged → IsDistinct nat_eq order → All (λ place. place < length items) order
      → n < length order → slice_get slots (get_or order n 0) ≡ Some r → (x : X) × (r ≡ Some x) × (slice_get items (get_or order n 0) ≡ Some x)
  arranging-slot n slots arranged r is distinct inside within slot =
      let item = some_at items (get_or order n 0) (inside n 0 within) in
      let full = is.full (get_or order n 0) item.0 item.1 (not_before order n distinct within) in
      let same : Some r ≡ Some (Some item.0) = sym slot ∙ full in
      (item.0, cc, item.1)

  pub arranging-next : (n : ℕ) (slots : List (Option X)) (arranged : List X) (x : X) → IsArranging items order n slots arranged → IsDistinct nat_eq order → All (λ place. place < length items) order
      → n < length order → slice_get slots (get_or order n 0) ≡ Some (Some x) → IsArranging items order (n + 1) (slice_set slots (get_or order n 0) None) (arranged ++ x ∷ [])
  arranging-next n slots arranged x is distinct inside within slot =
      let place = get_or order n 0 in
      let longer : take (n + 1) order ≡ take n order ++ place ∷ [] = take-next_at order n place (at_get order n 0 within) in
      let item = arranging-slot n slots arranged (Some x) is distinct inside within slot in
      let same : x ≡ item.0 = cc (item.1) in
      record {
        long = length-set slots place None ∙ is.long;
        full = λ j y at new.
            kept_at slots place j (Some y) None
            (λ equal. new (subst (λ (l : List ℕ). Contains l j) (sym longer) (subst (λ (p : ℕ). Contains (take n order ++ place ∷ []) p) (sym equal) (Contains-push (take n order) place))))
            (is.full j y at (λ has. new (subst (λ (l : List ℕ). Contains l j) (sym longer) (Contains-append_left (take n order) (place ∷ []) j has))));
        zip = subst (λ (l : List ℕ). AllZip (λ p (z : X). slice_get items p ≡ Some z) l (arranged ++ x ∷ [])) (sym longer)
            (zip-push (λ p (z : X). slice_get items p ≡ Some z) (take n order) arranged place x is.zip (item.2 ∙ ap (λ (z : X). Some z) (sym same)));
      }

  pub arranging-all : (n : ℕ) (slots : List (Option X)) (arranged : List X) → IsArranging items order n slots arranged → length order ≤ n
      → AllZip (λ place (x : X). slice_get items place ≡ Some x) order arranged
  arranging-all n slots arranged is reached = subst (λ (l : List ℕ). AllZip (λ p (z : X). slice_get items p ≡ Some z) l arranged) (take_all n order reached) is.zip
