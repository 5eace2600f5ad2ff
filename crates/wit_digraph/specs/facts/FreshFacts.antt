-- Facts on what `fresh` keeps, for the proofs of this crate and of the crates above. They say nothing about
-- this crate's code.
use Rattle.std.proofs.Common.{◌≡◌, ℕ, true, false, List, [], ◌∷◌, ◌++◌, inl, inr, refl, sym, ◌∙◌, subst, get_or, append_assoc, nat_eq, Contains}
use Rattle.std.specs.List.{list_any, IsDistinct}
use Rattle.std.specs.Cmp.{nat_eq_equiv}
use Rattle.std.proofs.lemmas.List.{append-nil}
use Rattle.std.proofs.lemmas.Bool.{eqb-true, ne_eqb, cases_Bool, false≢true, cond-true, cond-false, false_from_ne_true}
use Rattle.std.proofs.lemmas.Map.Keys.{IsDistinct-cons}
use Rattle.std.proofs.lemmas.Map.Views.{Contains-from_any, list_any-from_Contains}
use Rattle.std.proofs.lemmas.List.Elements.{Contains-append_cases, Contains-append_left, Contains-append_right, Contains-push, Contains-get_or, recursion_from_All}
use Rattle.wit_digraph.specs.facts.MemberFacts.{Contains-nil, Contains-here, Contains-there, Contains-cons_cases}
use Rattle.wit_digraph.specs.PostOrder.{fresh}
use Rattle.wit_digraph.specs.steps.PostOrder.{UsesFirst}

pub any_from_contains : (x : ℕ) (xs : List ℕ) → Contains xs x → list_any (nat_eq x) xs ≡ true
any_from_contains x xs has = list_any-from_Contains nat_eq_equiv x xs has

pub contains_from_any : (x : ℕ) (xs : List ℕ) → list_any (nat_eq x) xs ≡ true → Contains xs x
contains_from_any x xs found = Contains-from_any eqb-true x xs found

pub no_any_from : (x : ℕ) (xs : List ℕ) → (Contains xs x → ⊥) → list_any (nat_eq x) xs ≡ false
no_any_from x xs not_there = false_from_ne_true (list_any (nat_eq x) xs) (λ found. not_there (contains_from_any x xs found))

-- one member, that was seen or is new
pub fresh-seen : (seen : List ℕ) (x : ℕ) (xs : List ℕ) → list_any (nat_eq x) seen ≡ true → fresh seen (x ∷ xs) ≡ fresh seen xs
fresh-seen seen x xs found = cond-true (list_any (nat_eq x) seen) (fresh seen xs) (x ∷ fresh (seen ++ x ∷ []) xs) found

pub fresh-new : (seen : List ℕ) (x : ℕ) (xs : List ℕ) → list_any (nat_eq x) seen ≡ false → fresh seen (x ∷ xs) ≡ x ∷ fresh (seen ++ x ∷ []) xs
fresh-new seen x xs absent = cond-false (list_any (nat_eq x) seen) (fresh seen xs) (x ∷ fresh (seen ++ x ∷ []) xs) absent

-- the same where membership is known
pub fresh-there : (seen : List ℕ) (x : ℕ) (xs : List ℕ) → Contains seen x → fresh seen (x ∷ xs) ≡ fresh seen xs
fresh-there seen x xs has = fresh-seen seen x xs (any_from_contains x seen has)

pub fresh-absent : (seen : List ℕ) (x : ℕ) (xs : List ℕ) → (Contains seen x → ⊥) → fresh seen (x ∷ xs) ≡ x ∷ fresh (seen ++ x ∷ []) xs
fresh-absent seen x xs absent = fresh-new seen x xs (no_any_from x seen absent)

-- members that were all seen leave nothing
pub fresh-all_seen : (seen xs ys : List ℕ) → ((x : ℕ) → Contains xs x → Contains seen x) → fresh seen (xs ++ ys) ≡ fresh seen ys
fresh-all_seen seen [] ys known = refl
fresh-all_seen seen (x ∷ xs) ys known =
    fresh-seen seen x (xs ++ ys) (any_from_contains x seen (known x (Contains-here x xs)))
    ∙ fresh-all_seen seen xs ys (λ y has. known y (Contains-there x y xs has))

pub fresh-append : (seen xs ys : List ℕ) → fresh seen (xs ++ ys) ≡ fresh seen xs ++ fresh (seen ++ fresh seen xs) ys
fresh-append seen [] ys = rw append-nil
fresh-append seen (x ∷ xs) ys =
    elim (cases_Bool (list_any (nat_eq x) seen)) [
      | inl found ↦ rw (fresh-seen seen x (xs ++ ys) found, fresh-seen seen x xs found) (fresh-append seen xs ys)
      | inr absent ↦ rw (fresh-new seen x (xs ++ ys) absent, fresh-new seen x xs absent, fresh-append (seen ++ x ∷ []) xs ys, append_assoc seen (x ∷ []) (fresh (seen ++ x ∷ []) xs)) refl
    ]

-- what is fresh is a member, and every member was seen or is fresh
pub fresh_in : (seen xs : List ℕ) (y : ℕ) → Contains (fresh seen xs) y → Contains xs y
fresh_in seen [] y has = absurd (Contains-nil has)
fresh_in seen (x ∷ xs) y has =
    elim (cases_Bool (list_any (nat_eq x) seen)) [
      | inl found ↦ Contains-there x y xs (fresh_in seen xs y (rw (fresh-seen seen x xs found) at has))
      | inr absent ↦ elim (Contains-cons_cases x y (fresh (seen ++ x ∷ []) xs) (rw (fresh-new seen x xs absent) at has)) [
        | inl same ↦ subst (λ z. Contains (x ∷ xs) z) same (Contains-here x xs)
        | inr there ↦ Contains-there x y xs (fresh_in (seen ++ x ∷ []) xs y there)
      ]
    ]

pub fresh_new : (seen xs : List ℕ) (y : ℕ) → Contains (fresh seen xs) y → Contains seen y → ⊥
fresh_new seen [] y has old = Contains-nil has
fresh_new seen (x ∷ xs) y has old =
    elim (cases_Bool (list_any (nat_eq x) seen)) [
      | inl found ↦ fresh_new seen xs y (rw (fresh-seen seen x xs found) at has) old
      | inr absent ↦ elim (Contains-cons_cases x y (fresh (seen ++ x ∷ []) xs) (rw (fresh-new seen x xs absent) at has)) [
        | inl same ↦ false≢true (sym absent ∙ any_from_contains x seen (subst (λ z. Contains seen z) (sym same) old))
        | inr there ↦ fresh_new (seen ++ x ∷ []) xs y there (Contains-append_left seen (x ∷ []) y old)
      ]
    ]

pub fresh_all : (seen xs : List ℕ) (y : ℕ) → Contains xs y → Contains (seen ++ fresh seen xs) y
fresh_all seen [] y has = absurd (Contains-nil has)
fresh_all seen (x ∷ xs) y has =
    elim (cases_Bool (list_any (nat_eq x) seen)) [
      | inl found ↦ rw (fresh-seen seen x xs found)
          (elim (Contains-cons_cases x y xs has) [
            | inl same ↦ Contains-append_left seen (fresh seen xs) y (subst (λ z. Contains seen z) same (contains_from_any x seen found))
            | inr there ↦ fresh_all seen xs y there
          ])
      | inr absent ↦ rw (fresh-new seen x xs absent)
          (elim (Contains-cons_cases x y xs has) [
            | inl same ↦ Contains-append_right seen _ y (subst (λ z. Contains (x ∷ fresh (seen ++ x ∷ []) xs) z) same (Contains-here x _))
            | inr there ↦ rw (append_assoc seen (x ∷ []) (fresh (seen ++ x ∷ []) xs)) at (fresh_all (seen ++ x ∷ []) xs y there)
          ])
    ]

-- what is fresh has no member twice
pub IsDistinct-fresh : (seen xs : List ℕ) → IsDistinct nat_eq (fresh seen xs)
unfolding IsDistinct
IsDistinct-fresh seen [] = tt
IsDistinct-fresh seen (x ∷ xs) =
    elim (cases_Bool (list_any (nat_eq x) seen)) [
      | inl found ↦ rw (fresh-seen seen x xs found) (IsDistinct-fresh seen xs)
      | inr absent ↦ rw (fresh-new seen x xs absent)
          (IsDistinct-cons nat_eq x (fresh (seen ++ x ∷ []) xs)
          (recursion_from_All _ (fresh (seen ++ x ∷ []) xs) (λ at d below. ne_eqb x (get_or (fresh (seen ++ x ∷ []) xs) at d) (λ same.
          fresh_new (seen ++ x ∷ []) xs _ (Contains-get_or (fresh (seen ++ x ∷ []) xs) at d below) (subst (λ y. Contains (seen ++ x ∷ []) y) same (Contains-push seen x)))))
          (IsDistinct-fresh (seen ++ x ∷ []) xs))
    ]

-- what is kept still has each member's uses before it
pub UsesFirst-fresh : (uses : List (List ℕ)) (xs before seen : List ℕ) → ((j : ℕ) → Contains before j → Contains seen j) → UsesFirst uses before xs → UsesFirst uses seen (fresh seen xs)
UsesFirst-fresh uses [] before seen wider first = tt
UsesFirst-fresh uses (x ∷ xs) before seen wider first =
    elim (cases_Bool (list_any (nat_eq x) seen)) [
      | inl found ↦ rw (fresh-seen seen x xs found)
          (UsesFirst-fresh uses xs (before ++ x ∷ []) seen (λ j has. elim (Contains-append_cases before (x ∷ []) j has) [
            | inl old ↦ wider j old
            | inr last ↦ elim (Contains-cons_cases x j [] last) [ inl same ↦ subst (λ z. Contains seen z) same (contains_from_any x seen found) | inr none ↦ absurd (Contains-nil none) ]
          ]) first.1)
      | inr absent ↦ rw (fresh-new seen x xs absent) (
        (λ k d below. wider _ (first.0 k d below)),
        UsesFirst-fresh uses xs (before ++ x ∷ []) (seen ++ x ∷ []) (λ j has. elim (Contains-append_cases before (x ∷ []) j has)
            [ inl old ↦ Contains-append_left seen (x ∷ []) j (wider j old) | inr last ↦ Contains-append_right seen (x ∷ []) j last ]) first.1,
      )
    ]
