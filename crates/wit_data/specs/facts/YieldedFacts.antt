-- Facts on loops over the entries of a table, for the proofs of this crate and of the crates above. There is
-- nothing in them to believe: they say nothing about this crate's code.
use Rattle.std.proofs.Common.{◌≡◌, ℕ, suc, List, [], ◌∷◌, ◌++◌, length, Bool, true, false, Option, None, Some, sym, subst, refl, arith}
use Rattle.std.proofs.lemmas.List.{length_push}
use Rattle.std.proofs.lemmas.Map.Iter.{iter_end, iter_turn}
use Rattle.std.specs.Iterator.{Yields}
use Rattle.std.specs.Map.Iter.{TakesFirst}
use Rattle.std.specs.Prelude.{◌↔◌, IsTrue}
use Rattle.wit_data.specs.Each.{Each, EachAt}
use Rattle.wit_data.specs.facts.EachFacts.{EachAt-cons, EachAt-nil, EachBelow, all_of, one_more}

-- P holds of all exactly where it holds of those that are left
pub record LeftDecide {X : Type 0} (P : X → Type 0) (left all : List X) : Type 0 where
  pub same : Each P left ↔ Each P all

pub left_start : {X : Type 0} {P : X → Type 0} {left all : List X} → left ≡ all → LeftDecide P left all
left_start {X} {P} {left} whole = subst (λ (xs : List X). LeftDecide P left xs) whole (record { same = (λ each. each, λ each. each) })

-- some are left, of which this one is the first
module _ {X : Type 0} {left others : List X} {x : X} (first : left ≡ x ∷ others) where
  -- it was tested
  module _ {P : X → Type 0} {all : List X} {b : Bool} (decide : LeftDecide P left all) (test : IsTrue b ↔ P x) where
    pub left_more : b ≡ true → LeftDecide P others all
    left_more passed = record {
      same = (
        λ each. decide.same.0 (subst (λ xs. Each P xs) (sym first) (EachAt-cons (λ _. P) x others (test.0 passed) each)),
        λ each i y at. let there : Each P (x ∷ others) = subst (λ xs. Each P xs) first (decide.same.1 each) in there (suc i) y at,
      );
    }

    pub left_fails : b ≡ false → (false ≡ true) ↔ Each P all
    left_fails failed = (λ h. cc, λ each. let there : Each P (x ∷ others) = subst (λ xs. Each P xs) first (decide.same.1 each) in let passed : b ≡ true = test.1 (there 0 x refl) in cc)

-- none are left
module _ {X : Type 0} {left : List X} (none : left ≡ []) where
  pub left_none : {P : X → Type 0} {all : List X} → LeftDecide P left all → (true ≡ true) ↔ Each P all
  left_none {P} decide = (λ _. decide.same.0 (subst (λ xs. Each P xs) (sym none) (EachAt-nil (λ _. P))), λ _. refl)

-- a table whose first entries have been yielded
module _ {A X : Type 0} (shows : A → X) {P : ℕ → X → Type 0} {entries : List X} (xs : List A) {s : List X} (t u : List X) {r : Option A} (start : s ≡ entries) (yielded : Yields (TakesFirst shows) s xs t) where
  -- what holds of each holds of the one that comes
  pub of_next : (x : A) → r ≡ Some x → TakesFirst shows t r u → EachAt P entries → P (length xs) (shows x)
  of_next x is step each = each (length xs) (shows x) (iter_turn shows entries xs s t u r start yielded x is step).1

  -- one more, of which P holds
  pub one_yielded : (x : A) → r ≡ Some x → TakesFirst shows t r u → EachBelow (length xs) P entries → P (length xs) (shows x) → EachBelow (length (xs ++ x ∷ [])) P entries
  one_yielded x is step below here = rw length_push (one_more below (shows x) (iter_turn shows entries xs s t u r start yielded x is step).1 here)

  -- all
  pub all_yielded : r ≡ None → TakesFirst shows t r u → EachBelow (length xs) P entries → EachAt P entries
  all_yielded none step below =
      let end = (iter_end shows entries xs s t u r start yielded none step).1 in
      all_of below (omega (arith, end))
