-- The steps of loops that gather or pick over the numbers below one.
use Rattle.std.proofs.Common.{◌≡◌, ◌∙◌, ℕ, ◌+◌, ◌<◌, Bool, true, false, List, [], ◌∷◌, ◌++◌, map, filter, length, cond, refl, sym, ap, subst, append_assoc, get_or, take, Some, slice_get}
use Rattle.std.specs.Borrow.{Bor}
use Rattle.std.specs.List.{flat_map, range_with_len}
use Rattle.std.proofs.lemmas.Grind.{flat_map-append}
use Rattle.std.proofs.lemmas.List.{append-nil, map-append, take_more}
use Rattle.std.proofs.lemmas.List.Elements.{filter-append}
use Rattle.std.proofs.lemmas.Option.{slice_get-get_or, slice_get_read}
use Rattle.wit_data.specs.declared.function.Function.{Function}
use Rattle.wit_link_spec.specs.facts.RangeFacts.{range-more}
use Rattle.wit_link_resources.specs.steps.Active.{seen}

module _ {X : Type 0} where
  -- one more is gathered
  pub ranged-next : (f : ℕ → List X) (i : ℕ) (start before after : List X) (more : List X) → before ≡ start ++ flat_map f (range_with_len 0 i) → after ≡ before ++ more → more ≡ f i
      → after ≡ start ++ flat_map f (range_with_len 0 (i + 1))
  ranged-next f i start before after more gathered added is =
      added ∙ (ap (λ (l : List X). l ++ more) gathered ∙ (append_assoc start (flat_map f (range_with_len 0 i)) more ∙ ap (λ (l : List X). start ++ l) step))
    where
      step : flat_map f (range_with_len 0 i) ++ more ≡ flat_map f (range_with_len 0 (i + 1))
      step = ap (λ (l : List X). flat_map f (range_with_len 0 i) ++ l) (is ∙ sym (append-nil (f i)))
          ∙ (sym (flat_map-append f (range_with_len 0 i) (i ∷ [])) ∙ ap (flat_map f) (sym (range-more i)))

  -- nothing is
  pub ranged-same : (f : ℕ → List X) (i : ℕ) (start before after : List X) → before ≡ start ++ flat_map f (range_with_len 0 i) → after ≡ before → f i ≡ []
      → after ≡ start ++ flat_map f (range_with_len 0 (i + 1))
  ranged-same f i start before after gathered same none = ranged-next f i start before after [] gathered (same ∙ sym (append-nil before)) (sym none)

  -- one more passes a test, or doesn't
  pub picked-next : (p : ℕ → Bool) (f : ℕ → X) (i : ℕ) (before after : List X) (x : X) → before ≡ map f (filter p (range_with_len 0 i)) → after ≡ before ++ x ∷ [] → x ≡ f i → p i ≡ true
      → after ≡ map f (filter p (range_with_len 0 (i + 1)))
  picked-next p f i before after x made added is passes =
      added ∙ (ap (λ (l : List X). l ++ x ∷ []) made ∙ (ap (λ (y : X). map f (filter p (range_with_len 0 i)) ++ y ∷ []) is
      ∙ (sym (map-append f (filter p (range_with_len 0 i)) (i ∷ [])) ∙ ap (map f) step)))
    where
      step : filter p (range_with_len 0 i) ++ i ∷ [] ≡ filter p (range_with_len 0 (i + 1))
      step = ap (λ (b : Bool). filter p (range_with_len 0 i) ++ cond b (i ∷ []) []) (sym passes)
          ∙ (sym (filter-append p (range_with_len 0 i) (i ∷ [])) ∙ ap (filter p) (sym (range-more i)))

  pub passed-next : (p : ℕ → Bool) (f : ℕ → X) (i : ℕ) (before after : List X) → before ≡ map f (filter p (range_with_len 0 i)) → after ≡ before → p i ≡ false
      → after ≡ map f (filter p (range_with_len 0 (i + 1)))
  passed-next p f i before after made same fails = same ∙ (made ∙ ap (map f) step)
    where
      step : filter p (range_with_len 0 i) ≡ filter p (range_with_len 0 (i + 1))
      step = sym (append-nil (filter p (range_with_len 0 i))) ∙ (ap (λ (b : Bool). filter p (range_with_len 0 i) ++ cond b (i ∷ []) []) (sym fails)
          ∙ (sym (filter-append p (range_with_len 0 i) (i ∷ [])) ∙ ap (filter p) (sym (range-more i))))

-- a table that is gone through: what is there, with what is left, and one of it more
module _ {X Y : Type 0} (f : X → List Y) where
  pub left-next : (now next whole : List Y) (left : List X) (x : X) (others : List X) → left ≡ x ∷ others → now ++ flat_map f left ≡ whole → next ≡ now ++ f x → next ++ flat_map f others ≡ whole
  left-next now next whole left x others first so_far more =
      ap (λ (l : List Y). l ++ flat_map f others) more ∙ (append_assoc now (f x) (flat_map f others) ∙ (ap (λ (l : List X). now ++ flat_map f l) (sym first) ∙ so_far))

  -- where nothing is left
  pub left-none : (now whole : List Y) (left : List X) → left ≡ [] → now ++ flat_map f left ≡ whole → now ≡ whole
  left-none now whole left none so_far = sym (append-nil now) ∙ (ap (λ (l : List X). now ++ flat_map f l) (sym none) ∙ so_far)

-- two functions that give the same
pub map-same : {X Y : Type 0} (f g : X → Y) → ((x : X) → f x ≡ g x) → (xs : List X) → map f xs ≡ map g xs
map-same f g same [] = refl
map-same f g same (x ∷ xs) = ap (λ y. y ∷ map f xs) (same x) ∙ ap (λ ys. g x ∷ ys) (map-same f g same xs)

-- what one more function that is looked at gives
pub seen-next : {X : Type 0} (f : Function → List X) (items : List (Bor Function)) (i : ℕ) (x : Bor Function) (start before after : List X) → i < length items → x ≡ get_or items i x
    → before ≡ start ++ flat_map f (seen (take i items)) → after ≡ before ++ f x.now → after ≡ start ++ flat_map f (seen (take (i + 1) items))
seen-next {X} f items i x start before after below is gathered added =
    added ∙ (ap (λ (l : List X). l ++ f x.now) gathered ∙ (append_assoc start (flat_map f (seen (take i items))) (f x.now) ∙ ap (λ (l : List X). start ++ l) (sym step)))
  where
    step : flat_map f (seen (take (i + 1) items)) ≡ flat_map f (seen (take i items)) ++ f x.now
    step = ap (λ (l : List (Bor Function)). flat_map f (seen l)) (take_more items i x below ∙ ap (λ (y : Bor Function). take i items ++ y ∷ []) (sym is))
        ∙ (ap (flat_map f) (map-append (λ (g : Bor Function). g.now) (take i items) (x ∷ []))
        ∙ (flat_map-append f (seen (take i items)) (x.now ∷ []) ∙ ap (λ (l : List X). flat_map f (seen (take i items)) ++ l) (append-nil (f x.now))))

-- what a loop over a list that is lent yields at a place
module _ {X : Type 0} (list lent : List X) (i : ℕ) (same : lent ≡ list) (within : i < length lent) where
  pub lent_below : i < length list
  lent_below = subst (λ (xs : List X). i < length xs) same within

  pub lent_at : (x : X) → x ≡ get_or lent i x → slice_get list i ≡ Some x
  lent_at x is = subst (λ (xs : List X). slice_get xs i ≡ Some x) same (slice_get_read lent _ i x refl within is)

  pub lent_read : (d : X) → slice_get list i ≡ Some (get_or lent i d)
  lent_read d = subst (λ (xs : List X). slice_get xs i ≡ Some (get_or lent i d)) same (slice_get-get_or lent i d within)
