-- The worked worlds.
use Rattle.std.proofs.Common.{◌≡◌, ◌<◌, ◌≤◌, ℕ, zero, suc, false, List, [], ◌∷◌, inl, inr, refl, sym, ◌∙◌, subst, nat_eq, lit<, arith, Contains}
use Rattle.std.specs.List.{list_any}
use Rattle.std.proofs.lemmas.Bool.{false≢true}
use Rattle.wit_digraph.specs.facts.FreshFacts.{any_from_contains}
use Rattle.wit_digraph.specs.facts.MemberFacts.{Contains-nil, Contains-here, Contains-there, Contains-cons_cases}
use Rattle.wit_digraph.specs.PostOrder.{post_order, post_order_within}
use Rattle.wit_digraph.specs.Relation.{direct, IsPath}
use Rattle.wit_elaboration.specs.Entries.{Entry}
use Rattle.wit_elaboration.specs.Imported.{HasTransitiveConflict, IsEntryInConflict}
use Rattle.wit_elaboration.specs.examples.ElaborationExamples.{chain, a, b, c, d, labelled, WorkedElaborations, WorkedConflicts}
use Rattle.wit_elaboration.specs.steps.Parts.{exported_keys, LeadsToConflict}

pub worked_elaborations : WorkedElaborations
unfolding post_order post_order_within
worked_elaborations = record {
  all_exported = record { imports_are = refl; exports_are = refl };
  used_before_user = record { imports_are = refl; exports_are = refl };
  export_alone = record { imports_are = refl; exports_are = refl };
  import_alone = record { imports_are = refl; exports_are = refl };
  both = record { imports_are = refl; exports_are = refl };
  label_last = record { imports_are = refl; exports_are = refl };
  label_first = record { imports_are = refl; exports_are = refl };
  nothing = record { imports_are = refl; exports_are = refl };
  not_direct_alone = λ gives. let is = gives.imports_are in cc;
  not_user_first = λ gives. let is = gives.imports_are in cc;
}

-- a list without a number lacks it
lacks : (x : ℕ) (xs : List ℕ) → list_any (nat_eq x) xs ≡ false → Contains xs x → ⊥
lacks x xs absent has = false≢true (sym absent ∙ any_from_contains x xs has)

-- c and d use b, which is no exported key and uses a, which is
c_leads : (exports : List Entry) → (Contains (exported_keys exports) 1 → ⊥) → Contains (exported_keys exports) 0 → LeadsToConflict chain exports 2
c_leads exports off on = (1, 1, Contains-there 0 1 (1 ∷ []) (Contains-here 1 []), ([], refl), (off, 0, (0 ∷ [], (Contains-here 0 [], refl)), on))

d_leads : (exports : List Entry) → (Contains (exported_keys exports) 1 → ⊥) → Contains (exported_keys exports) 0 → LeadsToConflict chain exports 3
d_leads exports off on = (1, 1, Contains-here 1 [], ([], refl), (off, 0, (0 ∷ [], (Contains-here 0 [], refl)), on))

-- a uses nothing
a_leads_not : (exports : List Entry) (i : ℕ) → 0 ≡ i → LeadsToConflict chain exports i → ⊥
a_leads_not exports i same leads = Contains-nil (subst (λ m. Contains (direct chain m) leads.0) (sym same) leads.2)

a_safe : (exports : List Entry) → IsEntryInConflict chain exports a → ⊥
a_safe exports conflict =
    elim (Contains-cons_cases 0 conflict.0 [] conflict.1) [ inl same ↦ a_leads_not exports conflict.0 same conflict.2 | inr none ↦ Contains-nil none ]

-- b uses a alone, which is an exported key
from_a : (exports : List Entry) → Contains (exported_keys exports) 0 → (path : List ℕ) (t : ℕ) → IsPath chain 0 path t → (Contains (exported_keys exports) t → ⊥) → ⊥
from_a exports on [] t same off = off (subst (λ m. Contains (exported_keys exports) m) same on)
from_a exports on (k ∷ path) t leads off = Contains-nil leads.0

b_leads_not : (exports : List Entry) → Contains (exported_keys exports) 0 → (i : ℕ) → 1 ≡ i → LeadsToConflict chain exports i → ⊥
b_leads_not exports on i same leads =
    elim (Contains-cons_cases 0 leads.0 [] (subst (λ m. Contains (direct chain m) leads.0) (sym same) leads.2)) [
      | inl first ↦ from_a exports on leads.3.0 leads.1 (subst (λ m. IsPath chain m leads.3.0 leads.1) (sym first) leads.3.1) leads.4.0
      | inr none ↦ Contains-nil none
    ]

b_safe : (exports : List Entry) → Contains (exported_keys exports) 0 → IsEntryInConflict chain exports (labelled 1) → ⊥
b_safe exports on conflict =
    elim (Contains-cons_cases 1 conflict.0 [] conflict.1) [ inl same ↦ b_leads_not exports on conflict.0 same conflict.2 | inr none ↦ Contains-nil none ]

only_a : (exports : List Entry) (f : Entry) → Contains (a ∷ []) f → IsEntryInConflict chain exports f → ⊥
only_a exports f has conflict =
    elim (Contains-cons_cases a f [] has) [ inl same ↦ a_safe exports (subst (λ e. IsEntryInConflict chain exports e) (sym same) conflict) | inr none ↦ Contains-nil none ]

b_and_a : (exports : List Entry) → Contains (exported_keys exports) 0 → (f : Entry) → Contains (labelled 1 ∷ a ∷ []) f → IsEntryInConflict chain exports f → ⊥
b_and_a exports on f has conflict =
    elim (Contains-cons_cases (labelled 1) f (a ∷ []) has) [
      | inl same ↦ b_safe exports on (subst (λ e. IsEntryInConflict chain exports e) (sym same) conflict)
      | inr there ↦ only_a exports f there conflict
    ]

all_passed : HasTransitiveConflict chain (a ∷ b ∷ []) → ⊥
all_passed conflict =
    elim (Contains-cons_cases 0 conflict.0 (1 ∷ []) conflict.2) [
      | inl first ↦ Contains-nil (subst (λ m. Contains (direct chain m) conflict.1) (sym first) conflict.3)
      | inr there ↦ elim (Contains-cons_cases 1 conflict.0 [] there) [
        | inl second ↦ elim (Contains-cons_cases 0 conflict.1 [] (subst (λ m. Contains (direct chain m) conflict.1) (sym second) conflict.3)) [
          | inl used ↦ conflict.4.0 (subst (λ m. Contains (0 ∷ 1 ∷ []) m) used (Contains-here 0 (1 ∷ [])))
          | inr none ↦ Contains-nil none
        ]
        | inr none ↦ Contains-nil none
      ]
    ]

-- what anything uses is a or b, and comes before it
uses_a_or_b : (i d : ℕ) → Contains (direct chain i) d → Contains (0 ∷ 1 ∷ []) d × (d < i)
uses_a_or_b zero d has = absurd (Contains-nil has)
uses_a_or_b (suc zero) d (zero, below, is) = ((0, lit< tt, is), omega (arith, is))
uses_a_or_b (suc zero) d (suc k, below, is) = absurd (omega (arith, below))
uses_a_or_b (suc (suc zero)) d (zero, below, is) = ((0, lit< tt, is), omega (arith, is))
uses_a_or_b (suc (suc zero)) d (suc zero, below, is) = ((1, lit< tt, is), omega (arith, is))
uses_a_or_b (suc (suc zero)) d (suc (suc k), below, is) = absurd (omega (arith, below))
uses_a_or_b (suc (suc (suc zero))) d (zero, below, is) = ((1, lit< tt, is), omega (arith, is))
uses_a_or_b (suc (suc (suc zero))) d (suc k, below, is) = absurd (omega (arith, below))
uses_a_or_b (suc (suc (suc (suc i)))) d has = absurd (Contains-nil has)

-- so what is reached comes no later
reached_before : (d j : ℕ) (path : List ℕ) → IsPath chain d path j → j ≤ d
reached_before d j [] same = omega (arith, same)
reached_before d j (k ∷ path) leads = omega (arith, (uses_a_or_b d k leads.0).1, reached_before k j path leads.1)

b_exported_too : HasTransitiveConflict chain (a ∷ b ∷ c ∷ []) → ⊥
b_exported_too conflict =
    let used = (uses_a_or_b conflict.0 conflict.1 conflict.3).0 in
    conflict.4.0 (elim (Contains-cons_cases 0 conflict.1 (1 ∷ []) used) [
      | inl first ↦ (0, lit< tt, first)
      | inr there ↦ elim (Contains-cons_cases 1 conflict.1 [] there) [ inl second ↦ (1, lit< tt, second) | inr none ↦ absurd (Contains-nil none) ]
    ])

a_under_label : HasTransitiveConflict chain (labelled 0 ∷ c ∷ []) → ⊥
a_under_label conflict =
    let between = conflict.4 in
    let before = (uses_a_or_b conflict.0 conflict.1 conflict.3).1 in
    let reached = reached_before conflict.1 between.1 between.2.0 between.2.1 in
    elim (Contains-cons_cases 2 between.1 [] between.3) [
      | inl key ↦ elim (Contains-cons_cases 0 conflict.0 (2 ∷ []) conflict.2) [
        | inl first ↦ absurd (omega (arith, before, first))
        | inr there ↦ elim (Contains-cons_cases 2 conflict.0 [] there) [ inl second ↦ absurd (omega (arith, before, reached, key, second)) | inr none ↦ Contains-nil none ]
      ]
      | inr none ↦ Contains-nil none
    ]

pub worked_conflicts : WorkedConflicts
worked_conflicts = record {
  c_refused = (
    c,
    record { before = a ∷ []; after = []; are = refl; earlier = only_a (a ∷ c ∷ []); is = (2, Contains-here 2 [], c_leads (a ∷ c ∷ []) (lacks 1 (0 ∷ 2 ∷ []) refl) (Contains-here 0 (2 ∷ []))) },
    refl,
  );
  d_refused = (
    d,
    record { before = []; after = a ∷ []; are = refl; earlier = λ f has conflict. Contains-nil has; is = (3, Contains-here 3 [], d_leads (d ∷ a ∷ []) (lacks 1 (3 ∷ 0 ∷ []) refl) (Contains-there 3 0 (0 ∷ []) (Contains-here 0 []))) },
    refl,
  );
  d_refused_last = (
    d,
    record { before = a ∷ []; after = []; are = refl; earlier = only_a (a ∷ d ∷ []); is = (3, Contains-here 3 [], d_leads (a ∷ d ∷ []) (lacks 1 (0 ∷ 3 ∷ []) refl) (Contains-here 0 (3 ∷ []))) },
    refl,
  );
  label_passed = (
    c,
    record { before = labelled 1 ∷ a ∷ []; after = []; are = refl; earlier = b_and_a (labelled 1 ∷ a ∷ c ∷ []) (Contains-here 0 (2 ∷ [])); is = (2, Contains-here 2 [], c_leads (labelled 1 ∷ a ∷ c ∷ []) (lacks 1 (0 ∷ 2 ∷ []) refl) (Contains-here 0 (2 ∷ []))) },
    refl,
  );
  c_in_conflict = (
    2,
    1,
    Contains-there 0 2 (2 ∷ []) (Contains-here 2 []),
    Contains-there 0 1 (1 ∷ []) (Contains-here 1 []),
    (lacks 1 (0 ∷ 2 ∷ []) refl, 0, (0 ∷ [], (Contains-here 0 [], refl)), Contains-here 0 (2 ∷ [])),
  );
  a_passed = a_safe (a ∷ c ∷ []);
  all_passed = all_passed;
  b_exported_too = b_exported_too;
  a_under_label = a_under_label;
}
