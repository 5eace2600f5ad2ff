-- What marks tell of the nodes that are listed.
use Rattle.std.proofs.Common.{◌≡◌, ◌≢◌, ℕ, ◌<◌, ◌≤◌, ◌*◌, ◌/◌, Some, List, [], ◌∷◌, ◌++◌, inl, inr, length, set, drop, ◌+◌, sym, subst, ap, ◌∙◌, arith, slice_get, All, Contains}
use Rattle.std.proofs.lemmas.Bool.{cases_eq}
use Rattle.std.proofs.lemmas.List.{length-set, length_push, drop_more}
use Rattle.std.proofs.lemmas.List.Elements.{All-head, All-tail, All-push, All-weaker, Contains-push, Contains-append_cases, Contains-append_left}
use Rattle.std.proofs.lemmas.Option.{get_or_from_slice_get, slice_get_cases}
use Rattle.wit_digraph.specs.facts.BitFacts.{bit_of-selected_same, bit_of-selected_other, bit_of-longer}
use Rattle.wit_digraph.specs.facts.MemberFacts.{Contains-nil, Contains-cons_cases}
use Rattle.wit_digraph.specs.steps.Rows.{HasBit, bit_of}
use Rattle.wit_digraph.specs.steps.PostOrder.{AreMarksOf}

-- without bits none is listed
pub AreMarksOf-none : (nodes : ℕ) (marks : List ℕ) → nodes ≤ 64 * length marks → ((i : ℕ) → bit_of marks i ≡ 0) → AreMarksOf nodes marks []
AreMarksOf-none nodes marks enough off = record {
  enough = enough;
  each = λ i. (λ on. absurd (omega (arith, on, off i)), λ has. absurd (Contains-nil has));
  in_range = λ k d below. absurd (omega (arith, below));
}

-- one more is listed
pub AreMarksOf-listed : (nodes : ℕ) (marks new order : List ℕ) (node : ℕ) → AreMarksOf nodes marks order → node < nodes → length new ≡ length marks → HasBit new node → ((k : ℕ) → k ≢ node → bit_of new k ≡ bit_of marks k) → AreMarksOf nodes new (order ++ node ∷ [])
AreMarksOf-listed nodes marks new order node tell below long set others = record {
  enough = omega (arith, tell.enough, long);
  each = λ i. (
    λ on. elim (cases_eq i node) [
      | inl same ↦ subst (λ k. Contains (order ++ node ∷ []) k) (sym same) (Contains-push order node)
      | inr apart ↦ Contains-append_left order (node ∷ []) i ((tell.each i).0 (sym (others i apart) ∙ on))
    ],
    λ has. elim (cases_eq i node) [
      | inl same ↦ subst (HasBit new) (sym same) set
      | inr apart ↦ elim (Contains-append_cases order (node ∷ []) i has) [
        | inl old ↦ others i apart ∙ (tell.each i).1 old
        | inr last ↦ elim (Contains-cons_cases node i [] last) [ inl same ↦ absurd (apart (sym same)) | inr none ↦ absurd (Contains-nil none) ]
      ]
    ],
  );
  in_range = All-push (λ k. k < nodes) order node tell.in_range below;
}

-- one node more
pub AreMarksOf-more : (nodes : ℕ) (marks order : List ℕ) → AreMarksOf nodes marks order → nodes + 1 ≤ 64 * length marks → AreMarksOf (nodes + 1) marks order
AreMarksOf-more nodes marks order tell enough = record {
  enough = enough;
  each = tell.each;
  in_range = All-weaker (λ k. k < nodes) (λ k. k < nodes + 1) (λ k below. omega (arith, below)) order tell.in_range;
}

-- one word more
pub AreMarksOf-longer : (nodes : ℕ) (marks order : List ℕ) → AreMarksOf nodes marks order → AreMarksOf nodes (marks ++ 0 ∷ []) order
AreMarksOf-longer nodes marks order tell = record {
  enough = omega (arith, tell.enough, length_push marks 0);
  each = λ i. (λ on. (tell.each i).0 (sym (bit_of-longer marks i) ∙ on), λ has. bit_of-longer marks i ∙ (tell.each i).1 has);
  in_range = tell.in_range;
}

-- each bit that is set is of a node in the list
pub record MarksAreOf (nodes : ℕ) (marks order : List ℕ) : Type 0 where
  pub enough : nodes ≤ 64 * length marks
  pub marked : (i : ℕ) → HasBit marks i → Contains order i
  pub in_range : All (λ i. i < nodes) order

pub MarksAreOf-from_tell : (nodes : ℕ) (marks order : List ℕ) → AreMarksOf nodes marks order → MarksAreOf nodes marks order
MarksAreOf-from_tell nodes marks order tell = record { enough = tell.enough; marked = λ i on. (tell.each i).0 on; in_range = tell.in_range }

pub first_below : (nodes : ℕ) (marks : List ℕ) (i : ℕ) (rest : List ℕ) → MarksAreOf nodes marks (i ∷ rest) → i / 64 < length marks
first_below nodes marks i rest are = omega (arith, All-head (λ k. k < nodes) i rest are.in_range, are.enough)

-- so it stays where the first node is left out and its word taken off
pub MarksAreOf-unset : (nodes : ℕ) (marks : List ℕ) (i : ℕ) (rest : List ℕ) → MarksAreOf nodes marks (i ∷ rest) → MarksAreOf nodes (set marks (i / 64) 0) rest
MarksAreOf-unset nodes marks i rest are = record {
  enough = omega (arith, are.enough, length-set marks (i / 64) 0);
  marked = λ k on. elim (cases_eq (k / 64) (i / 64)) [
    | inl same ↦ absurd (omega (arith, on, bit_of-selected_same marks i k (first_below nodes marks i rest are) same))
    | inr apart ↦ elim (Contains-cons_cases i k rest (are.marked k (sym (bit_of-selected_other marks i k apart) ∙ on))) [ inl same ↦ absurd (apart (ap (λ j. j / 64) (sym same))) | inr there ↦ there ]
  ];
  in_range = All-tail (λ k. k < nodes) i rest are.in_range;
}

pub AreMarksOf-from_none : (nodes kept : ℕ) (marks : List ℕ) → kept ≤ nodes → MarksAreOf nodes marks [] → AreMarksOf kept marks []
AreMarksOf-from_none nodes kept marks few are = record {
  enough = omega (arith, are.enough, few);
  each = λ i. (λ on. are.marked i on, λ has. absurd (Contains-nil has));
  in_range = λ k d below. absurd (omega (arith, below));
}

-- the list from an index on begins with the node that is read there
pub listed_from : (order : List ℕ) (at node : ℕ) → slice_get order at ≡ Some node → drop at order ≡ node ∷ drop (at + 1) order
listed_from order at node is =
    let first = get_or_from_slice_get order at node 0 is in
    elim (slice_get_cases order at).1 [
      | inl inside ↦ subst (λ n. drop at order ≡ n ∷ drop (at + 1) order) first (drop_more order at 0 inside.1)
      | inr past ↦ let none = past.1 in cc
    ]
