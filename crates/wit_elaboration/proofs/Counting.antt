-- How many uses the nodes of an order have.
use Rattle.std.proofs.Common.{◌≡◌, ℕ, suc, ◌+◌, ◌-◌, ◌<◌, ◌≤◌, inl, inr, true, false, List, [], ◌∷◌, ◌++◌, length, refl, sym, ◌∙◌, arith, Contains, nat_eq, if◌then◌else◌}
use Rattle.std.specs.List.{list_any, sum_by}
use Rattle.std.proofs.lemmas.Bool.{cases_eq, cases_Bool, false≢true, cond-true, cond-false}
use Rattle.std.proofs.lemmas.List.Elements.{Contains-append_cases, Contains-append_left, Contains-push}
use Rattle.std.proofs.lemmas.List.Sums.{sum_by-cons}
use Rattle.wit_digraph.specs.facts.MemberFacts.{Contains-nil, Contains-cons_cases}
use Rattle.wit_digraph.specs.facts.FreshFacts.{any_from_contains, contains_from_any, no_any_from}
use Rattle.wit_digraph.specs.Relation.{direct}

-- how many uses the nodes from `at` on have that are done
abbrev pub counted : List (List ℕ) → ℕ → List ℕ → ℕ
counted [] at done = 0
counted (row ∷ rows) at done =
    (if list_any (nat_eq at) done then length row else 0) + counted rows (suc at) done

pub counted-none : (rows : List (List ℕ)) (at : ℕ) → counted rows at [] ≡ 0
counted-none [] at = refl
counted-none (row ∷ rows) at = omega (arith, counted-none rows (suc at))

push_other : (a i : ℕ) (done : List ℕ) → (i ≡ a → ⊥) → list_any (nat_eq a) (done ++ i ∷ []) ≡ list_any (nat_eq a) done
push_other a i done apart =
    elim (cases_Bool (list_any (nat_eq a) done)) [
      | inl on ↦ any_from_contains a (done ++ i ∷ []) (Contains-append_left done (i ∷ []) a (contains_from_any a done on)) ∙ sym on
      | inr off ↦ no_any_from a (done ++ i ∷ []) (λ has. elim (Contains-append_cases done (i ∷ []) a has) [
        | inl old ↦ false≢true (sym off ∙ any_from_contains a done old)
        | inr last ↦ elim (Contains-cons_cases i a [] last) [ inl same ↦ apart same | inr none ↦ Contains-nil none ]
      ]) ∙ sym off
    ]

counted-past : (rows : List (List ℕ)) (at i : ℕ) (done : List ℕ) → i < at → counted rows at (done ++ i ∷ []) ≡ counted rows at done
counted-past [] at i done before = refl
counted-past (row ∷ rows) at i done before =
    rw (push_other at i done (λ same. omega (arith, same, before)), counted-past rows (suc at) i done (omega arith)) refl

-- one node more
pub counted-more : (rows : List (List ℕ)) (at i : ℕ) (done : List ℕ) → at ≤ i → i < at + length rows → (Contains done i → ⊥) → counted rows at (done ++ i ∷ []) ≡ counted rows at done + length (direct rows (i - at))
counted-more [] at i done from below absent = absurd (omega arith)
counted-more (row ∷ rows) at i done from below absent =
    elim (cases_eq i at) [
      | inl same ↦
          let on : list_any (nat_eq at) (done ++ i ∷ []) ≡ true = rw (← same) (any_from_contains i (done ++ i ∷ []) (Contains-push done i)) in
          let off : list_any (nat_eq at) done ≡ false = rw (← same) (no_any_from i done absent) in
          let here : i - at ≡ 0 = omega (arith, same) in
          rw (cond-true _ (length row) 0 on, cond-false _ (length row) 0 off, here, counted-past rows (suc at) i done (omega (arith, same))) (omega arith)
      | inr apart ↦
          let later : i - at ≡ suc (i - suc at) = omega (arith, apart) in
          rw (push_other at i done apart, later, counted-more rows (suc at) i done (omega (arith, apart)) (omega arith) absent) (omega arith)
    ]

-- all nodes
pub counted-all : (rows : List (List ℕ)) (at : ℕ) (done : List ℕ) → ((i : ℕ) → at ≤ i → i < at + length rows → Contains done i) → counted rows at done ≡ sum_by length rows
counted-all [] at done all = refl
counted-all (row ∷ rows) at done all =
    let here : list_any (nat_eq at) done ≡ true = any_from_contains at done (all at (omega arith) (omega arith)) in
    rw (cond-true _ (length row) 0 here, counted-all rows (suc at) done (λ i from below. all i (omega arith) (omega arith)), sum_by-cons (length {A = ℕ}) row rows) refl
