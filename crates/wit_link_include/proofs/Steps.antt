-- Lists that are gone through.
use Rattle.std.proofs.Common.{◌≡◌, ◌∙◌, ℕ, ◌+◌, ◌<◌, List, [], ◌∷◌, ◌++◌, map, length, get_or, slice_get, take, Some, refl, sym, ap, subst, append_assoc, Result, Ok, Err, IfOk}
use Rattle.std.specs.List.{flat_map}
use Rattle.std.proofs.lemmas.List.{append-nil}
use Rattle.std.proofs.lemmas.Option.{slice_get_read}
use Rattle.wit_values.specs.facts.Lists.{map-next}

-- a table that is gone through: what is there, with what is left, and one of it more
module _ {X Y : Type 0} where
  pub flat_more : (f : X → List Y) (now next whole : List Y) (left : List X) (x : X) (others : List X) → left ≡ x ∷ others →
      now ++ flat_map f left ≡ whole → next ≡ now ++ f x → next ++ flat_map f others ≡ whole
  flat_more f now next whole left x others first so_far more =
      ap (λ (w : List Y). w ++ flat_map f others) more ∙ (append_assoc now (f x) (flat_map f others) ∙ (ap (λ (w : List X). now ++ flat_map f w) (sym first) ∙ so_far))

  pub map_more : (f : X → Y) (now next whole : List Y) (left : List X) (x : X) (others : List X) → left ≡ x ∷ others →
      now ++ map f left ≡ whole → next ≡ now ++ f x ∷ [] → next ++ map f others ≡ whole
  map_more f now next whole left x others first so_far more =
      ap (λ (w : List Y). w ++ map f others) more ∙ (append_assoc now (f x ∷ []) (map f others) ∙ (ap (λ (w : List X). now ++ map f w) (sym first) ∙ so_far))

  -- where nothing is left
  pub nothing_left : (f : List X → List Y) (now whole : List Y) (left : List X) → left ≡ [] → f [] ≡ [] → now ++ f left ≡ whole → now ≡ whole
  nothing_left f now whole left none nothing so_far =
      sym (append-nil now) ∙ (ap (λ (w : List Y). now ++ w) (sym nothing) ∙ (ap (λ (w : List X). now ++ f w) (sym none) ∙ so_far))

  -- a list of which the first ones are there, and one more
  pub map_added : (f : X → Y) (xs : List X) (i : ℕ) (x : X) (old now next : List Y) → slice_get xs i ≡ Some x →
      now ≡ old ++ map f (take i xs) → next ≡ now ++ f x ∷ [] → next ≡ old ++ map f (take (i + 1) xs)
  map_added f xs i x old now next at so_far more =
      more ∙ (ap (λ (w : List Y). w ++ f x ∷ []) so_far ∙ (append_assoc old (map f (take i xs)) (f x ∷ []) ∙ ap (λ (w : List Y). old ++ w) (sym (map-next f xs i x at))))

-- what a loop over a list that is lent yields stands at its place
pub lent_at : {X : Type 0} (list lent : List X) (i : ℕ) → lent ≡ list → i < length lent → (x : X) → x ≡ get_or lent i x → slice_get list i ≡ Some x
lent_at list lent i same within x is = subst (λ xs. slice_get xs i ≡ Some x) same (slice_get_read lent _ i x refl within is)

-- what follows of a success
module _ {X : Type 0} {E : Type 0} (P Q : X → Type 0) where
  pub if_ok : ((x : X) → P x → Q x) → (r : Result X E) → IfOk r P → IfOk r Q
  if_ok step (Ok x) h = step x h
  if_ok step (Err e) h = h

-- what follows of two things that hold of a success
module _ {X : Type 0} {E : Type 0} (P Q R : X → Type 0) where
  pub if_ok_both : ((x : X) → P x → Q x → R x) → (r : Result X E) → IfOk r P → IfOk r Q → IfOk r R
  if_ok_both step (Ok x) h k = step x h k
  if_ok_both step (Err e) h k = h
