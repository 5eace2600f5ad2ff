-- Which of several notes are asked.
use Rattle.std.proofs.Common.{◌≡◌, ◌∙◌, ◌<◌, ◌≤◌, ℕ, zero, suc, ◌+◌, true, false, List, [], ◌∷◌, inl, inr, length, take, Some, get_or, slice_get, sym, ap, subst, arith, Contains}
use Rattle.std.proofs.lemmas.Bool.{cases_lt, false≢true}
use Rattle.std.proofs.lemmas.List.Sums.{fails_before_first, passes_at_first}
use Rattle.std.proofs.lemmas.Option.{get_or_from_slice_get, slice_get-get_or, slice_get_within}
use Rattle.std.specs.List.{position_or_len}
use Rattle.wit_digraph.specs.facts.MemberFacts.{Contains-cons_cases, Contains-here, Contains-nil, Contains-there}
use Rattle.wit_data.specs.Each.{Each}
use Rattle.wit_data.specs.facts.EachFacts.{EachBelow}
use Rattle.wit_data.specs.declared.stability.Stability.{Stability}
use Rattle.wit_graph_data.specs.declared.features.Features.{Features}
use Rattle.wit_graph_theory.specs.facts.ListFacts.{contained_at}
use Rattle.wit_link_spec.specs.Gates.{asked_gates, is_active}

-- ---- beginnings of lists

pub take_member : {X : Type 0} (n : ℕ) (xs : List X) (x : X) → Contains (take n xs) x → Contains xs x
take_member zero xs x has = absurd (Contains-nil has)
take_member (suc n) [] x has = has
take_member (suc n) (y ∷ ys) x has = elim (Contains-cons_cases y x (take n ys) has) [
  | inl same ↦ subst (Contains (y ∷ ys)) same (Contains-here y ys)
  | inr there ↦ Contains-there y x ys (take_member n ys x there)
]

take_at : {X : Type 0} (xs : List X) (n k : ℕ) (x : X) → k < n → slice_get xs k ≡ Some x → slice_get (take n xs) k ≡ Some x
take_at [] n k x within at = cc
take_at (y ∷ ys) zero k x within at = absurd (omega arith)
take_at (y ∷ ys) (suc n) zero x within at = at
take_at (y ∷ ys) (suc n) (suc k) x within at = take_at ys n k x (omega arith) at

take_from : {X : Type 0} (xs : List X) (n k : ℕ) (x : X) → slice_get (take n xs) k ≡ Some x → (k < n) × (slice_get xs k ≡ Some x)
take_from xs zero k x at = cc
take_from [] (suc n) k x at = cc
take_from (y ∷ ys) (suc n) zero x at = (omega arith, at)
take_from (y ∷ ys) (suc n) (suc k) x at = let rest = take_from ys n k x at in let below = rest.0 in (omega arith, rest.1)

-- ---- gates that are asked

module _ (features : Features) where
  -- so many gates let nothing be active
  abbrev pub NoneActive : ℕ → List Stability → Type 0
  NoneActive n notes = EachBelow n (λ _ note. is_active features note ≡ false) notes

  -- the next one is asked
  pub asks_next : (notes : List Stability) (i : ℕ) (note : Stability) → NoneActive i notes → slice_get notes i ≡ Some note → Contains (asked_gates features notes) note
  asks_next notes i note none at =
      let p = is_active features in
      let first = position_or_len p notes in
      let long : i < length notes = slice_get_within notes i note at in
      let late : i ≤ first = elim (cases_lt first i) [
        | inl before ↦
            let within : first < length notes = omega arith in
            let there = slice_get-get_or notes first note within in
            absurd (false≢true (sym (none.each first (get_or notes first note) before there) ∙ passes_at_first p notes note within))
        | inr after ↦ after
      ] in
      contained_at (asked_gates features notes) i note (take_at notes (suc first) i note (omega arith) at)

  -- what holds of each note up to an active one holds of those that are asked
  pub asked_up_to : (P : Stability → Type 0) (notes : List Stability) (i : ℕ) (note : Stability) → slice_get notes i ≡ Some note → is_active features note ≡ true
      → EachBelow (i + 1) (λ _. P) notes → Each P (asked_gates features notes)
  asked_up_to P notes i note at active below k x there =
      let p = is_active features in
      let first = position_or_len p notes in
      let from = take_from notes (suc first) k x there in
      let before : k < suc first = from.0 in
      let soon : first ≤ i = elim (cases_lt i first) [
        | inl early ↦
            let fails : p (get_or notes i note) ≡ false = fails_before_first p notes i note early in
            let same : get_or notes i note ≡ note = get_or_from_slice_get notes i note note at in
            absurd (false≢true (sym fails ∙ (ap p same ∙ active)))
        | inr late ↦ late
      ] in
      below.each k x (omega arith) from.1

  -- what holds of all holds of those that are asked
  pub asked_all : (P : Stability → Type 0) (notes : List Stability) (n : ℕ) → length notes ≤ n → EachBelow n (λ _. P) notes → Each P (asked_gates features notes)
  asked_all P notes n long below k x there =
      let from = take_from notes (suc (position_or_len (is_active features) notes)) k x there in
      let within : k < length notes = slice_get_within notes k x from.1 in
      below.each k x (omega arith) from.1
