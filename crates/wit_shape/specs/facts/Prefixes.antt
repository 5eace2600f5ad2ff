-- Uses among the first nodes of a relation.
use Rattle.std.proofs.Common.{◌≡◌, zero, suc, ℕ, ◌<◌, ◌≤◌, ◌+◌, ◌⊎◌, inl, inr, Bool, true, false, List, [], ◌∷◌, All, filter, get_or, length, take, length-take, refl, sym, subst, ◌∙◌, arith, Contains}
use Rattle.std.specs.Prelude.{◌↔◌, IsTrue, nat_lt}
use Rattle.std.proofs.lemmas.Bool.{cases_Bool, cond-true, cond-false, lt-ltb, ltb-true}
use Rattle.std.proofs.lemmas.List.{length-map, get_or-map, get_or-take, get_or_past}
use Rattle.std.proofs.lemmas.List.Elements.{All-contains, Contains-get_or}
use Rattle.wit_digraph.specs.facts.MemberFacts.{Contains-cons_cases, Contains-here, Contains-nil, Contains-there}
use Rattle.wit_digraph.specs.Relation.{IsAcyclic, IsInRange, IsPath, direct}
use Rattle.wit_shape.specs.Faults.{IsFirstOnCycle, among_first}

-- ---- what a test keeps

kept : (p : ℕ → Bool) (xs : List ℕ) (x : ℕ) → Contains (filter p xs) x → Contains xs x × (p x ≡ true)
kept p [] x has = absurd (Contains-nil has)
kept p (y ∷ xs) x has =
    elim (cases_Bool (p y)) [
      | inl pass ↦ elim (Contains-cons_cases y x (filter p xs) (rw (cond-true (p y) (y ∷ filter p xs) (filter p xs) pass) at has)) [
        | inl same ↦ (subst (λ z. Contains (y ∷ xs) z) same (Contains-here y xs), subst (λ z. p z ≡ true) same pass)
        | inr there ↦ let more = kept p xs x there in (Contains-there y x xs more.0, more.1)
      ]
      | inr fails ↦ let more = kept p xs x (rw (cond-false (p y) (y ∷ filter p xs) (filter p xs) fails) at has) in (Contains-there y x xs more.0, more.1)
    ]

keeps : (p : ℕ → Bool) (xs : List ℕ) (x : ℕ) → Contains xs x → p x ≡ true → Contains (filter p xs) x
keeps p [] x has pass = absurd (Contains-nil has)
keeps p (y ∷ xs) x has pass =
    elim (cases_Bool (p y)) [
      | inl yes_ ↦ rw (cond-true (p y) (y ∷ filter p xs) (filter p xs) yes_) (elim (Contains-cons_cases y x xs has) [
        | inl same ↦ subst (λ z. Contains (y ∷ filter p xs) z) same (Contains-here y (filter p xs))
        | inr there ↦ Contains-there y x (filter p xs) (keeps p xs x there pass)
      ])
      | inr no_ ↦ rw (cond-false (p y) (y ∷ filter p xs) (filter p xs) no_) (elim (Contains-cons_cases y x xs has) [
        | inl same ↦ let h : p y ≡ true = subst (λ z. p z ≡ true) (sym same) pass in cc
        | inr there ↦ keeps p xs x there pass
      ])
    ]

-- ---- the rows among the first nodes

long : (uses : List (List ℕ)) (n : ℕ) → n ≤ length uses → length (among_first uses n) ≡ n
long uses n fits = let whole = length-map (take n uses) (λ (row : List ℕ). filter (λ j. nat_lt j n) row) in let some = length-take n uses in omega arith

row_of : (uses : List (List ℕ)) (n i : ℕ) → n ≤ length uses → i < n → direct (among_first uses n) i ≡ filter (λ j. nat_lt j n) (direct uses i)
row_of uses n i fits less =
    let shorter = length-take n uses in
    let within : i < length (take n uses) = omega arith in
    get_or-map (λ (row : List ℕ). filter (λ j. nat_lt j n) row) (take n uses) i [] [] within ∙ ap_filter (get_or-take n uses i [] less)
  where
    ap_filter : {a b : List ℕ} → a ≡ b → filter (λ j. nat_lt j n) a ≡ filter (λ j. nat_lt j n) b
    ap_filter {a} same = subst (λ (l : List ℕ). filter (λ j. nat_lt j n) a ≡ filter (λ j. nat_lt j n) l) same refl

-- a use among the first ones is one of these, and each of these is one
from_among : (uses : List (List ℕ)) (n i j : ℕ) → n ≤ length uses → Contains (direct (among_first uses n) i) j → (i < n) × (j < n) × Contains (direct uses i) j
from_among uses n i j fits has =
    elim (below_or i n) [
      | inl less ↦ let parts = kept (λ k. nat_lt k n) (direct uses i) j (subst (λ (l : List ℕ). Contains l j) (row_of uses n i fits less) has) in (less, ltb-true j n parts.1, parts.0)
      | inr past ↦ let length_is = long uses n fits in let none : direct (among_first uses n) i ≡ [] = get_or_past (among_first uses n) i [] (omega arith) in
          absurd (Contains-nil (subst (λ (l : List ℕ). Contains l j) none has))
    ]
  where
    below_or : (a b : ℕ) → (a < b) ⊎ (b ≤ a)
    below_or a b = grind arith

to_among : (uses : List (List ℕ)) (n i j : ℕ) → n ≤ length uses → i < n → j < n → Contains (direct uses i) j → Contains (direct (among_first uses n) i) j
to_among uses n i j fits less below has =
    subst (λ (l : List ℕ). Contains l j) (sym (row_of uses n i fits less)) (keeps (λ k. nat_lt k n) (direct uses i) j has (lt-ltb j n below))

-- ---- paths

path_in : (rows whole : List (List ℕ)) → ((i j : ℕ) → Contains (direct rows i) j → Contains (direct whole i) j) → (i : ℕ) (path : List ℕ) (j : ℕ) → IsPath rows i path j → IsPath whole i path j
path_in rows whole among i [] j same = same
path_in rows whole among i (k ∷ path) j leads = (among i k leads.0, path_in rows whole among k path j leads.1)

in_range : (uses : List (List ℕ)) (n : ℕ) → n ≤ length uses → (i : ℕ) → All (λ j. j < length (among_first uses n)) (direct (among_first uses n) i)
in_range uses n fits i d k below =
    let length_is = long uses n fits in
    let parts = from_among uses n i (get_or (direct (among_first uses n) i) d k) fits (Contains-get_or (direct (among_first uses n) i) d k below) in
    let less : get_or (direct (among_first uses n) i) d k < n = parts.1 in
    omega arith

-- fewer nodes have no more cycles
pub fewer : (uses : List (List ℕ)) (m n : ℕ) → m ≤ n → n ≤ length uses → IsAcyclic (among_first uses n) → IsAcyclic (among_first uses m)
fewer uses m n less fits acyclic =
    let fits_too : m ≤ length uses = omega arith in
    record {
      in_range = in_range uses m fits_too;
      no_cycle = λ i k path leads. acyclic.no_cycle i k path (path_in (among_first uses m) (among_first uses n) wider i (k ∷ path) i leads);
    }
  where
    wider : (i j : ℕ) → Contains (direct (among_first uses m) i) j → Contains (direct (among_first uses n) i) j
    wider i j has =
        let parts = from_among uses m i j (omega arith) has in
        let first : i < m = parts.0 in
        let second : j < m = parts.1 in
        to_among uses n i j fits (omega arith) (omega arith) parts.2

-- all nodes have all cycles
pub whole : (uses : List (List ℕ)) → IsInRange uses → IsAcyclic (among_first uses (length uses)) → IsAcyclic uses
whole uses ranged acyclic = record {
  in_range = ranged;
  no_cycle = λ i k path leads. acyclic.no_cycle i k path (path_in uses (among_first uses (length uses)) wider i (k ∷ path) i leads);
}
  where
    inside : (i j : ℕ) → Contains (direct uses i) j → i < length uses
    inside i j has =
        elim (below_or i (length uses)) [
          | inl less ↦ less
          | inr past ↦ let none : direct uses i ≡ [] = get_or_past uses i [] past in absurd (Contains-nil (subst (λ (l : List ℕ). Contains l j) none has))
        ]
      where
        below_or : (a b : ℕ) → (a < b) ⊎ (b ≤ a)
        below_or a b = grind arith

    wider : (i j : ℕ) → Contains (direct uses i) j → Contains (direct (among_first uses (length uses)) i) j
    wider i j has = to_among uses (length uses) i j (omega arith) (inside i j has) (All-contains (λ k. k < length uses) (direct uses i) j (ranged i) has) has

-- no nodes have none
pub none : (uses : List (List ℕ)) → IsAcyclic (among_first uses 0)
none uses = record {
  in_range = in_range uses 0 (omega arith);
  no_cycle = λ i k path leads. let parts = from_among uses 0 i k (omega arith) leads.0 in let less : i < 0 = parts.0 in absurd (omega arith);
}

-- where a test says that all are not acyclic, there are some
pub not_all : (uses : List (List ℕ)) (b : Bool) → IsInRange uses → IsTrue b ↔ IsAcyclic uses → b ≡ false → IsAcyclic (among_first uses (length uses)) → ⊥
not_all uses b ranged test failed acyclic = let passed : b ≡ true = test.1 (whole uses ranged acyclic) in cc

pub some_there : (uses : List (List ℕ)) → (IsAcyclic (among_first uses (length uses)) → ⊥) → 0 < length uses
some_there uses closes = by (length uses) refl
  where
    by : (n : ℕ) → length uses ≡ n → 0 < length uses
    by zero is = absurd (closes (subst (λ (m : ℕ). IsAcyclic (among_first uses m)) (sym is) (none uses)))
    by (suc n) is = omega arith

-- ---- one node is the first

pub on_cycle_same : (uses : List (List ℕ)) (i j : ℕ) → IsFirstOnCycle uses i → IsFirstOnCycle uses j → i ≡ j
on_cycle_same uses i j one other =
    let a : i < j → ⊥ = λ less. one.closes (fewer uses (i + 1) j (omega arith) (fits j other.there) other.before) in
    let b : j < i → ⊥ = λ less. other.closes (fewer uses (j + 1) i (omega arith) (fits i one.there) one.before) in
    omega arith
  where
    fits : (k : ℕ) → k < length uses → k ≤ length uses
    fits k within = omega arith

-- where all are acyclic, none is
pub on_cycle_fails : (uses : List (List ℕ)) (i : ℕ) → IsFirstOnCycle uses i → IsAcyclic uses → ⊥
on_cycle_fails uses i first acyclic = first.closes (record {
  in_range = in_range uses (i + 1) (fits first.there);
  no_cycle = λ j k path leads. acyclic.no_cycle j k path (path_in (among_first uses (i + 1)) uses wider j (k ∷ path) j leads);
})
  where
    fits : i < length uses → i + 1 ≤ length uses
    fits within = omega arith

    wider : (j k : ℕ) → Contains (direct (among_first uses (i + 1)) j) k → Contains (direct uses j) k
    wider j k has = (from_among uses (i + 1) j k (fits first.there) has).2
