-- The steps of loops that look for the first element of which something doesn't hold.
use Rattle.std.proofs.Common.{◌≡◌, ◌∙◌, ℕ, ◌+◌, ◌<◌, ◌≤◌, Bool, true, false, List, get_or, length, Option, None, Some, slice_get, refl, ap, subst}
use Rattle.std.specs.Prelude.{◌↔◌, IsTrue}
use Rattle.std.proofs.lemmas.Option.{slice_get_read}
use Rattle.wit_data.specs.Each.{Each}
use Rattle.wit_data.specs.facts.EachFacts.{EachBelow, SomeAt-of, one_more}
use Rattle.wit_shape.specs.facts.FirstFacts.{lacks_all}
use Rattle.wit_shape.specs.First.{AtFirst, AtFirstId, Finds, FindsFirst, IsFirstWithout, WithinFirst}

-- what stands at a place of a list that is another one, and where that ends
pub read : {X : Type 0} (xs ys : List X) → ys ≡ xs → (i : ℕ) (x : X) → i < length ys → x ≡ get_or ys i x → slice_get xs i ≡ Some x
read {X} xs ys same i x within is = subst (λ (l : List X). slice_get l i ≡ Some x) same (slice_get_read ys _ i x refl within is)

pub ended : {X : Type 0} (xs ys : List X) (n : ℕ) → ys ≡ xs → length ys ≤ n → length xs ≤ n
ended {X} xs ys n same past = subst (λ (l : List X). length l ≤ n) same past

first_of : {X : Type 0} (P : ℕ → X → Type 0) (xs : List X) (i : ℕ) (x : X) → EachBelow i P xs → slice_get xs i ≡ Some x → (P i x → ⊥) → IsFirstWithout P xs i
first_of P xs i x below at fails = record { lacks = SomeAt-of (λ y. P i y → ⊥) xs i x at fails; earlier = λ j y less there. below.each j y less there }

-- a test says that P doesn't hold of this one
pub first_at : {X A : Type 0} (place : ℕ → A) (P : ℕ → X → Type 0) (xs : List X) (i n : ℕ) (x : X) (b : Bool) → EachBelow i P xs → slice_get xs i ≡ Some x → IsTrue b ↔ P i x → b ≡ false → n ≡ i
    → AtFirst place P xs (place n)
first_at place P xs i n x b below at test failed same = (i, (first_of P xs i x below at (λ holds. let passed : b ≡ true = test.1 holds in cc), ap place same))

pub id_at : (P : ℕ → ℕ → Type 0) (ids : List ℕ) (i id : ℕ) → EachBelow i P ids → slice_get ids i ≡ Some id → (P i id → ⊥) → AtFirstId (λ n. n) P ids id
id_at P ids i id below at fails = (i, id, (first_of P ids i id below at fails, at, refl))

-- and of what an element lists
module _ {X Y : Type 0} (Q : ℕ → X → Y → Type 0) (list : X → List Y) (xs : List X) where
  pub within_at : {A : Type 0} (place : ℕ → ℕ → A) (i n k : ℕ) (x : X) (found : Option ℕ) → EachBelow i (λ j y. Each (Q j y) (list y)) xs → slice_get xs i ≡ Some x
      → FindsFirst (λ m. m) (λ _. Q i x) (list x) found → found ≡ Some k → n ≡ i → WithinFirst place Q list xs (place n k)
  within_at place i n k x None below at told is same = absurd (none is)
    where
      none : None ≡ Some k → ⊥
      none h = cc
  within_at place i n k x (Some m) below at told is same =
      (i, told.0, (first_of (λ j y. Each (Q j y) (list y)) xs i x below at (lacks_all told.1.0), SomeAt-of (λ y. IsFirstWithout (λ _. Q i y) (list y) told.0) xs i x at told.1.0, ap (λ (j : ℕ). place j k) same ∙ ap (place i) (inside is ∙ told.1.1)))
    where
      inside : Some m ≡ Some k → k ≡ m
      inside h = cc

  pub within_more : (i : ℕ) (x : X) (found : Option ℕ) → EachBelow i (λ j y. Each (Q j y) (list y)) xs → slice_get xs i ≡ Some x
      → FindsFirst (λ m. m) (λ _. Q i x) (list x) found → found ≡ None → EachBelow (i + 1) (λ j y. Each (Q j y) (list y)) xs
  within_more i x None below at told is = one_more below x at told
  within_more i x (Some m) below at told is = absurd (some is)
    where
      some : Some m ≡ None → ⊥
      some h = cc

-- what is told of a list that is another one
module _ (H : List ℕ → Type 0) (P : List ℕ → ℕ → ℕ → Type 0) where
  pub moved_at : {A : Type 0} (place : ℕ → A) (ids others : List ℕ) (found : Option ℕ) (id n : ℕ) → ids ≡ others → Finds (H ids) (AtFirstId (λ m. m) (P ids) ids) found → found ≡ Some id → n ≡ id
      → AtFirstId place (P others) others (place n)
  moved_at place ids others None id n same told is at = absurd (none is)
    where
      none : None ≡ Some id → ⊥
      none h = cc
  moved_at {A} place ids others (Some m) id n same told is at = subst (λ (l : List ℕ). AtFirstId place (P l) l (place n)) same (told.0, told.1, (told.2.0, told.2.1, ap place (at ∙ inside is ∙ told.2.2)))
    where
      inside : Some m ≡ Some id → id ≡ m
      inside h = cc
