-- Of two reasons at once, which are told.
use Rattle.std.proofs.Common.{◌≡◌, inl, inr, ℕ, List, [], ◌∷◌, None, refl, sym, subst, lit<, lit≤, arith, Contains}
use Rattle.std.specs.Prelude.{codes}
use Rattle.wit_values.specs.facts.Lists.{differ}
use Rattle.wit_digraph.specs.Relation.{direct}
use Rattle.wit_digraph.specs.PostOrder.{post_order, post_order_within}
use Rattle.wit_data.specs.Kind.{type_references}
use Rattle.wit_names.specs.declared.package_name.PackageName.{PackageName}
use Rattle.wit_data.specs.declared.world.WorldKey.TheVariants as key
use Rattle.wit_elaboration.specs.Elaboration.{graph_uses}
use Rattle.wit_elaboration.specs.Entries.{Entry}
use Rattle.wit_elaboration.specs.Imported.{HasTransitiveConflict, IsEntryInConflict}
use Rattle.wit_graph_data.specs.examples.Samples.{entry_of}
use Rattle.wit_graph_data.specs.declared.cause.Cause.TheVariants as cause
use Rattle.wit_graph_data.specs.declared.error_kind.ResolveErrorKind.TheVariants.{InvalidTransitiveDependency, PackageCycle, Semantic}
use Rattle.wit_elaboration.specs.AllElaborated.{HasWorldInConflict, UsesItself}
use Rattle.wit_remap_spec.specs.FunctionMismatch.{FunctionMismatch, parameter_names_differ}
use Rattle.wit_graph_theory.specs.examples.TestFacts.{no_cycle, none_in, one_of_two, only_one}
use Rattle.wit_link_spec.specs.Gates.{OptionalSpan}
use Rattle.wit_merge_spec.specs.Cause.{GraphsDiffer, HasNoMismatch, IsMergeCause, MergeReturnsBorrow}
use Rattle.wit_merge_spec.specs.Cause as merging
use Rattle.wit_merge_spec.specs.Matches.{GraphMerge}
use Rattle.wit_merge_spec.specs.Merged.{joined_graph}
use Rattle.wit_merge_spec.specs.Structure.{structure, structure_within}
use Rattle.examples_resolve.proofs.OfMerges.Mismatches.{disagreeing}
use Rattle.examples_resolve.proofs.OfMerges.Passing.{are_one}
use Rattle.examples_resolve.proofs.OfMerges.Refused.{of_conflict}
use Rattle.examples_resolve.proofs.OfMerges.Stabilities.{gates_apart}
use Rattle.examples_resolve.specs.merge.Graphs.{gate_f, gate_g}
use Rattle.examples_resolve.specs.merge.TwoReasons.{ExamplesOfTwoReasons, all_wrong, borrow_told, g_of, l_agrees, l_differs, t_agrees, t_differs, x_agrees, x_differs}

-- ---- the reasons that stand only where the two are one

module _ (m : GraphMerge) where
  one_of_conflict : (span : OptionalSpan) (name : List ℕ) → IsMergeCause m (InvalidTransitiveDependency span name) → HasNoMismatch m
  one_of_conflict _ _ (merging.conflict_4 span name one c) = one

  one_of_cycle : (span : OptionalSpan) (home : PackageName) → IsMergeCause m (PackageCycle span home) → HasNoMismatch m
  one_of_cycle _ _ (merging.package_cycle_6 home one c) = one

  one_of_borrow : (span : OptionalSpan) (message : List ℕ) → IsMergeCause m (Semantic span message cause.BorrowInResult) → HasNoMismatch m
  one_of_borrow _ _ (merging.borrow_in_result_15 message one c) = one

  one_of_circle : (span : OptionalSpan) (message : List ℕ) → IsMergeCause m (Semantic span message cause.InterfaceCycle) → HasNoMismatch m
  one_of_circle _ _ (merging.interface_cycle_22 message one c) = one

-- ---- what differs

-- the names of the parameter of g
abbrev names_apart : FunctionMismatch (g_of (codes "q")) (g_of (codes "p")) (codes "different function parameter names: q != p")
names_apart = parameter_names_differ 0 _ _ refl refl (differ (codes "q") (codes "p") refl) refl

l_differ : GraphsDiffer l_differs (codes "failed to merge package `foo:a` into existing copy: failed to merge interface `l`: mismatch in function `g`: different function parameter names: q != p")
l_differ =
    merging.interfaces (record { x = 1; from = _; x' = 2; into = _; from_is = refl; matched = refl; into_is = refl }) 1 _ (codes "l") _ refl refl refl
    (disagreeing _ _ (g_of (codes "p")) (g_of (codes "q")) _ refl (0, lit< tt, refl) (0, lit< tt, refl) names_apart)

x_differ : GraphsDiffer x_differs (codes "failed to merge package `foo:bar` into existing copy: failed to merge interface `x`: mismatch in function `g`: different function parameter names: q != p")
x_differ =
    merging.interfaces (record { x = 0; from = _; x' = 1; into = _; from_is = refl; matched = refl; into_is = refl }) 0 _ (codes "x") _ refl refl refl
    (disagreeing _ _ (g_of (codes "p")) (g_of (codes "q")) _ refl (0, lit< tt, refl) (0, lit< tt, refl) names_apart)

t_differ : GraphsDiffer t_differs (codes "failed to merge package `foo:bar` into existing copy: failed to merge interface `i`: mismatch in function `g`: different function parameter names: q != p")
t_differ =
    merging.interfaces (record { x = 0; from = _; x' = 0; into = _; from_is = refl; matched = refl; into_is = refl }) 0 _ (codes "i") _ refl refl refl
    (disagreeing _ _ (g_of (codes "p")) (g_of (codes "q")) _ refl (1, lit< tt, refl) (0, lit< tt, refl) names_apart)

i_differ : GraphsDiffer all_wrong (codes "failed to merge package `foo:bar` into existing copy: failed to merge interface `i`: mismatch in function `g`: different function parameter names: q != p")
i_differ =
    merging.interfaces (record { x = 0; from = _; x' = 0; into = _; from_is = refl; matched = refl; into_is = refl }) 0 _ (codes "i") _ refl refl refl
    (disagreeing _ _ (g_of (codes "p")) (g_of (codes "q")) _ refl (0, lit< tt, refl) (0, lit< tt, refl) names_apart)

-- ---- 4 and 6

one_not_there : Contains {X = ℕ} (0 ∷ 2 ∷ []) 1 → ⊥
one_not_there has = elim (one_of_two 0 2 1 has) [
  | inl same ↦ absurd (omega (arith, same))
  | inr same ↦ absurd (omega (arith, same))
]

-- i leads to none
not_first : (f : Entry) → Contains (entry_of 0 ∷ []) f → IsEntryInConflict (graph_uses (joined_graph l_agrees)) (entry_of 0 ∷ entry_of 2 ∷ []) f → ⊥
unfolding post_order post_order_within
not_first f inside c =
    let at_i = subst (λ (e : Entry). IsEntryInConflict (graph_uses (joined_graph l_agrees)) (entry_of 0 ∷ entry_of 2 ∷ []) e) (sym (only_one (entry_of 0) f inside)) c in
    let place : 0 ≡ at_i.0 = only_one 0 at_i.0 at_i.1 in
    none_in at_i.2.0 (subst (λ (i : ℕ). Contains (direct (graph_uses (joined_graph l_agrees)) i) at_i.2.0) (sym place) at_i.2.2)

l_conflict : HasWorldInConflict (joined_graph l_agrees) None (codes "foo:a/l")
unfolding post_order post_order_within
l_conflict = record {
  interfaces = λ message c. no_cycle (λ i. i) (graph_uses (joined_graph l_agrees)) refl c.i c.j c.on_cycle;
  types = λ message c. no_cycle (λ t. t) (type_references (joined_graph l_agrees).types) refl c.t c.u c.on_cycle;
  world = _;
  there = (0, lit< tt, refl);
  conflict = (2, 1, (1, lit< tt, refl), (0, lit< tt, refl), (one_not_there, 0, (0 ∷ [], ((0, lit< tt, refl), refl)), (0, lit< tt, refl)));
  name_is = (
    key.Interface 2,
    (entry_of 2, record { before = entry_of 0 ∷ []; after = []; are = refl; earlier = not_first; is = (2, (0, lit< tt, refl), (1, 1, (0, lit< tt, refl), ([], refl), (one_not_there, 0, (0 ∷ [], ((0, lit< tt, refl), refl)), (0, lit< tt, refl)))) }, refl),
    refl,
  );
  span_is = refl;
}

would_conflict : HasTransitiveConflict (graph_uses (joined_graph l_differs)) (entry_of 0 ∷ entry_of 2 ∷ [])
unfolding post_order post_order_within
would_conflict = (2, 1, (1, lit< tt, refl), (0, lit< tt, refl), (one_not_there, 0, (0 ∷ [], ((0, lit< tt, refl), refl)), (0, lit< tt, refl)))

-- ---- 22 and 4

x_circle : UsesItself (joined_graph x_agrees) (codes "interface `foo:bar/x` would depend on itself")
unfolding post_order post_order_within
x_circle = record { i = 1; j = 0; on_cycle = record { is_used = (0, lit< tt, refl); leads_back = (1 ∷ [], ((0, lit< tt, refl), refl)) }; id = _; id_is = refl; message_is = refl }

zero_not_one : Contains {X = ℕ} (1 ∷ []) 0 → ⊥
zero_not_one has = let one : 1 ≡ 0 = only_one 1 0 has in absurd (omega (arith, one))

would_conflict_too : HasTransitiveConflict (graph_uses (joined_graph x_agrees)) (entry_of 1 ∷ [])
unfolding post_order post_order_within
would_conflict_too = (1, 0, (0, lit< tt, refl), (0, lit< tt, refl), (zero_not_one, 1, (1 ∷ [], ((0, lit< tt, refl), refl)), (0, lit< tt, refl)))

-- ---- 15

would_return : MergeReturnsBorrow t_differs borrow_told
unfolding post_order post_order_within
would_return = record { f = _; t' = 1; moved = (0, lit< tt, refl); result_is = (0, lit< tt, refl); holds = (1, ([], refl), (0, refl)); message_is = refl }

pub two_reasons : ExamplesOfTwoReasons
unfolding post_order post_order_within structure structure_within
two_reasons = record {
  conflict = merging.conflict_4 _ _ (are_one l_agrees refl refl refl) l_conflict;
  cycle = merging.package_cycle_6 _ (are_one l_agrees refl refl refl) (record { p = 0; q = 1; on_cycle = record { is_used = (0, lit< tt, refl); leads_back = (0 ∷ [], ((0, lit< tt, refl), refl)) }; there = _; is = refl; home_is = refl });
  l_told = merging.merge_mismatch_24 _ l_differ;
  would_conflict = would_conflict;
  would_cycle = record { p = 0; q = 1; on_cycle = record { is_used = (0, lit< tt, refl); leads_back = (0 ∷ [], ((0, lit< tt, refl), refl)) }; there = _; is = refl; home_is = refl };
  no_conflict = λ span name c. one_of_conflict l_differs span name c _ l_differ;
  no_cycle = λ span home c. one_of_cycle l_differs span home c _ l_differ;
  circle = merging.interface_cycle_22 _ (are_one x_agrees refl refl refl) x_circle;
  would_conflict_too = would_conflict_too;
  no_conflict_beside = λ span name c. (of_conflict x_agrees span name c).interfaces _ x_circle;
  x_told = merging.merge_mismatch_24 _ x_differ;
  would_circle = record { i = 1; j = 0; on_cycle = record { is_used = (0, lit< tt, refl); leads_back = (1 ∷ [], ((0, lit< tt, refl), refl)) }; id = _; id_is = refl; message_is = refl };
  no_circle = λ span message c. one_of_circle x_differs span message c _ x_differ;
  borrow = merging.borrow_in_result_15 _ (are_one t_agrees refl refl refl) (record { f = _; t' = 1; moved = (0, lit< tt, refl); result_is = (0, lit< tt, refl); holds = (1, ([], refl), (0, refl)); message_is = refl });
  t_told = merging.merge_mismatch_24 _ t_differ;
  would_return = would_return;
  no_borrow = λ span message c. one_of_borrow t_differs span message c _ t_differ;
  i_told = merging.merge_mismatch_24 _ i_differ;
  gates_beside = merging.mismatch_8 gate_g gate_f (merging.interfaces (record { x = 0; from = _; x' = 0; into = _; from_is = refl; matched = refl; into_is = refl })) gates_apart;
  too_far_beside = merging.offset_overflow_27 5 10 (0, lit< tt, refl) (lit≤ tt);
}
