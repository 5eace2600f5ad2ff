-- What stands at a place of a list that gives a value for each place.
use Rattle.std.proofs.Common.{◌≡◌, ◌∙◌, ℕ, ◌<◌, ◌≤◌, Bool, false, inl, inr, map, Option, None, Some, unwrap_or, slice_get, refl, sym, ap, arith}
use Rattle.std.specs.List.{range_with_len}
use Rattle.std.proofs.lemmas.Bool.{cases_lt}
use Rattle.wit_link_spec.specs.facts.RangeFacts.{range-at, range-past}
use Rattle.wit_remap.specs.steps.Movers.{goes, id_or}
use Rattle.wit_remap.specs.steps.Parts.{flag}

module _ {X : Type 0} (f : ℕ → X) where
  -- a place is one of so many or past them
  pub in_or_past : (n i : ℕ) (P : Type 0) → (i < n → P) → (n ≤ i → P) → P
  in_or_past n i P inside outside = elim (cases_lt i n) [ inl below ↦ inside below | inr past ↦ outside (omega arith) ]

-- flags of places, where no further place has one that is set
pub flag-is : (f : ℕ → Bool) (n : ℕ) → ((i : ℕ) → n ≤ i → f i ≡ false) → flag (map f (range_with_len 0 n)) ≡ f
flag-is f n none = λ j i. each i j
  where
    each : (i : ℕ) → flag (map f (range_with_len 0 n)) i ≡ f i
    each i = in_or_past f n i (flag (map f (range_with_len 0 n)) i ≡ f i)
        (λ below. ap (λ (o : Option Bool). unwrap_or o false) (range-at f n i below))
        (λ past. ap (λ (o : Option Bool). unwrap_or o false) (range-past f n i past) ∙ sym (none i past))

-- what ids are remapped to, where no further one goes anywhere
pub goes-is : (f : ℕ → Option ℕ) (n : ℕ) → ((i : ℕ) → n ≤ i → f i ≡ None) → goes (map f (range_with_len 0 n)) ≡ (λ i. unwrap_or (f i) i)
goes-is f n none = λ j i. each i j
  where
    id_or-is : (i : ℕ) (o : Option ℕ) → id_or i (Some o) ≡ unwrap_or o i
    id_or-is i None = refl
    id_or-is i (Some new) = refl

    each : (i : ℕ) → goes (map f (range_with_len 0 n)) i ≡ unwrap_or (f i) i
    each i = in_or_past f n i (goes (map f (range_with_len 0 n)) i ≡ unwrap_or (f i) i)
        (λ below. ap (id_or i) (range-at f n i below) ∙ id_or-is i (f i))
        (λ past. ap (id_or i) (range-past f n i past) ∙ sym (ap (λ (o : Option ℕ). unwrap_or o i) (none i past)))

-- values of ids, where further ones stay
pub values-are : (f : ℕ → ℕ) (n : ℕ) → ((i : ℕ) → n ≤ i → f i ≡ i) → f ≡ (λ i. unwrap_or (slice_get (map f (range_with_len 0 n)) i) i)
values-are f n stay = λ j i. sym (each i) j
  where
    each : (i : ℕ) → unwrap_or (slice_get (map f (range_with_len 0 n)) i) i ≡ f i
    each i = in_or_past f n i (unwrap_or (slice_get (map f (range_with_len 0 n)) i) i ≡ f i)
        (λ below. ap (λ (o : Option ℕ). unwrap_or o i) (range-at f n i below))
        (λ past. ap (λ (o : Option ℕ). unwrap_or o i) (range-past f n i past) ∙ sym (stay i past))
