-- The first element of which something doesn't hold is one, and there is none where it holds of all; so a search finds
-- nothing exactly where it does.
use Rattle.std.proofs.Common.{◌≡◌, ◌∙◌, ℕ, ◌<◌, Bool, true, false, List, Option, None, Some, slice_get, refl, sym, ap, subst, arith}
use Rattle.std.specs.Prelude.{◌↔◌, IsTrue, is_some, not}
use Rattle.std.proofs.lemmas.Bool.{false≢true}
use Rattle.wit_data.specs.Each.{Each, EachAt, SomeAt}
use Rattle.wit_data.specs.facts.EachFacts.{SomeAt-is}
use Rattle.wit_shape.specs.First.{AtFirst, AtFirstId, Finds, FindsFirst, FindsWithin, IsFirstWithout, WithinFirst}

module _ {X : Type 0} where
  pub lacks_all : {P : ℕ → X → Type 0} {xs : List X} {i : ℕ} → IsFirstWithout P xs i → EachAt P xs → ⊥
  lacks_all {P} {xs} {i} first each = let here = SomeAt-is (λ x. P i x → ⊥) xs i first.lacks in here.2 (each i here.0 here.1)

  no_earlier : {P : ℕ → X → Type 0} {xs : List X} {i j : ℕ} → IsFirstWithout P xs i → IsFirstWithout P xs j → i < j → ⊥
  no_earlier {P} {xs} {i} one other less = let here = SomeAt-is (λ x. P i x → ⊥) xs i one.lacks in here.2 (other.earlier i here.0 less here.1)

  one_first : {P : ℕ → X → Type 0} {xs : List X} {i j : ℕ} → IsFirstWithout P xs i → IsFirstWithout P xs j → i ≡ j
  one_first {P} {xs} {i} {j} one other =
      let a : i < j → ⊥ = no_earlier one other in
      let b : j < i → ⊥ = no_earlier other one in
      omega arith

module _ {X A : Type 0} {place : ℕ → A} {P : ℕ → X → Type 0} {xs : List X} where
  pub first_fails : {at : A} → AtFirst place P xs at → EachAt P xs → ⊥
  first_fails is each = lacks_all is.1.0 each

  pub first_same : {a b : A} → AtFirst place P xs a → AtFirst place P xs b → a ≡ b
  first_same one other = one.1.1 ∙ ap place (one_first one.1.0 other.1.0) ∙ sym other.1.1

module _ {A : Type 0} {place : ℕ → A} {P : ℕ → ℕ → Type 0} {ids : List ℕ} where
  pub id_fails : {at : A} → AtFirstId place P ids at → EachAt P ids → ⊥
  id_fails is each = lacks_all is.2.0 each

  pub id_same : {a b : A} → AtFirstId place P ids a → AtFirstId place P ids b → a ≡ b
  id_same one other = one.2.2 ∙ ap place (inside (sym one.2.1 ∙ ap (slice_get ids) (one_first one.2.0 other.2.0) ∙ other.2.1)) ∙ sym other.2.2
    where
      inside : {i j : ℕ} → Some i ≡ Some j → i ≡ j
      inside same = cc

module _ {X Y A : Type 0} {place : ℕ → ℕ → A} {Q : ℕ → X → Y → Type 0} (list : X → List Y) {xs : List X} where
  pub within_fails : {at : A} → WithinFirst place Q list xs at → EachAt (λ i x. Each (Q i x) (list x)) xs → ⊥
  within_fails is each = lacks_all is.2.0 each

  pub within_same : {a b : A} → WithinFirst place Q list xs a → WithinFirst place Q list xs b → a ≡ b
  within_same {a} {b} one other =
      let outer : one.0 ≡ other.0 = one_first one.2.0 other.2.0 in
      let moved : SomeAt xs other.0 (λ x. IsFirstWithout (λ _. Q other.0 x) (list x) one.1) =
      subst (λ (i : ℕ). SomeAt xs i (λ x. IsFirstWithout (λ _. Q i x) (list x) one.1)) outer one.2.1 in
      let here = SomeAt-is (λ x. IsFirstWithout (λ _. Q other.0 x) (list x) one.1) xs other.0 moved in
      let there = SomeAt-is (λ x. IsFirstWithout (λ _. Q other.0 x) (list x) other.1) xs other.0 other.2.1 in
      let same : there.0 ≡ here.0 = inside (sym there.1 ∙ here.1) in
      let inner : one.1 ≡ other.1 = one_first here.2 (subst (λ (x : X). IsFirstWithout (λ _. Q other.0 x) (list x) other.1) same there.2) in
      one.2.2 ∙ ap (λ (i : ℕ). place i one.1) outer ∙ ap (place other.0) inner ∙ sym other.2.2
    where
      inside : {x y : X} → Some x ≡ Some y → x ≡ y
      inside same = cc

-- ---- what a search finds

-- where a test says of what it finds that there is nothing, it holds, and where it doesn't, it doesn't, of what can't hold
-- where it is broken
pub none_is : {A : Type 0} (holds : Type 0) (breaks : A → Type 0) → ((at : A) → breaks at → holds → ⊥)
    → (found : Option A) (none : Bool) → is_some found ≡ not none → Finds holds breaks found → IsTrue none ↔ holds
none_is holds breaks fails None true test it = (λ _. it, λ _. refl)
none_is holds breaks fails None false test it = absurd (false≢true test)
none_is holds breaks fails (Some at) true test broken = absurd (false≢true (sym test))
none_is holds breaks fails (Some at) false test broken = (λ none. absurd (false≢true none), λ it. absurd (fails at broken it))

-- the same of the first thing, and of the first within
pub first_none : {X A : Type 0} (place : ℕ → A) (P : ℕ → X → Type 0) (xs : List X)
    → (found : Option A) (none : Bool) → is_some found ≡ not none → FindsFirst place P xs found → IsTrue none ↔ EachAt P xs
first_none place P xs = none_is (EachAt P xs) (AtFirst place P xs) (λ at broken each. first_fails broken each)

pub within_none : {X Y A : Type 0} (place : ℕ → ℕ → A) (Q : ℕ → X → Y → Type 0) (list : X → List Y) (xs : List X)
    → (found : Option A) (none : Bool) → is_some found ≡ not none → FindsWithin place Q list xs found
    → IsTrue none ↔ EachAt (λ i x. Each (Q i x) (list x)) xs
within_none place Q list xs =
    none_is (EachAt (λ i x. Each (Q i x) (list x)) xs) (WithinFirst place Q list xs) (λ at broken each. within_fails list broken each)
