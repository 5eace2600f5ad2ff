-- The examples of the other reasons.
use Rattle.std.proofs.Common.{◌≡◌, ℕ, zero, suc, List, [], ◌∷◌, Some, refl, sym, subst, lit<, lit≤, arith, Contains}
use Rattle.std.specs.Prelude.{codes}
use Rattle.wit_digraph.specs.Relation.{direct}
use Rattle.wit_digraph.specs.PostOrder.{post_order, post_order_within}
use Rattle.wit_data.specs.Entries.{Entry}
use Rattle.wit_data.specs.Kind.{type_references}
use Rattle.wit_names.specs.declared.package_name.PackageName.{PackageName}
use Rattle.wit_data.specs.declared.world.WorldKey.TheVariants as key
use Rattle.wit_elaboration.specs.Elaboration.{graph_uses}
use Rattle.wit_elaboration.specs.Entries.{item_interface}
use Rattle.wit_elaboration.specs.Imported.{IsEntryInConflict}
use Rattle.wit_graph_data.specs.examples.Samples.{entry_of}
use Rattle.wit_graph_data.specs.declared.cause.Cause.TheVariants as cause
use Rattle.wit_graph_data.specs.declared.error_kind.ResolveErrorKind.TheVariants.{InvalidTransitiveDependency, OffsetOverflow, OutOfMemory, PackageCycle, Semantic}
use Rattle.wit_elaboration.specs.AllElaborated.{DependsOnItself, HasWorldInConflict, UsesItself}
use Rattle.wit_graph_theory.specs.examples.TestFacts.{no_cycle, none_in, only_one}
use Rattle.wit_link_spec.specs.Gates.{OptionalSpan}
use Rattle.wit_merge_spec.specs.Cause.{IsMergeCause}
use Rattle.wit_merge_spec.specs.Cause as merging
use Rattle.wit_merge_spec.specs.Matches.{GraphMerge}
use Rattle.wit_merge_spec.specs.Merged.{joined_graph}
use Rattle.wit_merge_spec.specs.Structure.{structure, structure_within}
use Rattle.examples_resolve.proofs.OfMerges.Passing.{are_one, fits, in_no_conflict, results_fine}
use Rattle.examples_resolve.proofs.OfMerges.Stabilities.{disagreeing, nowhere}
use Rattle.examples_resolve.specs.merge.Graphs.{merge_of_graphs}
use Rattle.examples_resolve.specs.merge.Refusals.{ExamplesOfRefusals, b_alone, c_uses_b, exports_two}
use Rattle.wit_merge_spec.specs.steps.Parts.{MergeOverflows}

module _ (m : GraphMerge) where
  pub of_conflict : (span : OptionalSpan) (name : List ℕ) → IsMergeCause m (InvalidTransitiveDependency span name) → HasWorldInConflict (joined_graph m) span name
  of_conflict _ _ (merging.conflict_4 span name one c) = c

  of_cycle : (span : OptionalSpan) (home : PackageName) → IsMergeCause m (PackageCycle span home) → DependsOnItself (joined_graph m) home
  of_cycle _ _ (merging.package_cycle_6 home one c) = c

  of_borrow : (span : OptionalSpan) (message : List ℕ) → IsMergeCause m (Semantic span message cause.BorrowInResult) → merging.MergeReturnsBorrow m message
  of_borrow _ _ (merging.borrow_in_result_15 message one c) = c

  of_circle : (span : OptionalSpan) (message : List ℕ) → IsMergeCause m (Semantic span message cause.InterfaceCycle) → UsesItself (joined_graph m) message
  of_circle _ _ (merging.interface_cycle_22 message one c) = c

  of_overflow : IsMergeCause m OffsetOverflow → MergeOverflows m
  of_overflow (merging.offset_overflow_27 from to known past) = record { from = from; to = to; known = known; past = past }

  none_of_memory : IsMergeCause m OutOfMemory → ⊥
  none_of_memory c = elim c [ ]

-- ---- 4

-- a isn't exported where it is b
not_b : Contains {X = ℕ} (0 ∷ 2 ∷ []) 1 → ⊥
not_b (zero, below, is) = absurd (omega (arith, is))
not_b (suc zero, below, is) = absurd (omega (arith, is))
not_b (suc (suc k), below, is) = absurd (omega (arith, below))

-- a leads to none
not_first : (f : Entry) → Contains (entry_of 0 ∷ []) f → IsEntryInConflict (graph_uses (joined_graph (merge_of_graphs exports_two c_uses_b))) (entry_of 0 ∷ entry_of 2 ∷ []) f → ⊥
not_first f inside c =
    let same : entry_of 0 ≡ f = only_one (entry_of 0) f inside in
    let i : 0 ≡ c.0 = only_one 0 c.0 (subst (λ (e : Entry). Contains (item_interface e.1) c.0) (sym same) c.1) in
    none_in c.2.0 (subst (λ (x : ℕ). Contains (direct (graph_uses (joined_graph (merge_of_graphs exports_two c_uses_b))) x) c.2.0) (sym i) c.2.2)

conflict : IsMergeCause (merge_of_graphs exports_two c_uses_b) (InvalidTransitiveDependency (Some (30, 31)) (codes "foo:bar/c"))
unfolding post_order post_order_within structure structure_within
conflict = merging.conflict_4 _ _ (are_one (merge_of_graphs exports_two c_uses_b) refl refl refl) (record {
  interfaces = λ message c. no_cycle (λ i. i) (graph_uses (joined_graph (merge_of_graphs exports_two c_uses_b))) refl c.i c.j c.on_cycle;
  types = λ message c. no_cycle (λ t. t) (type_references (joined_graph (merge_of_graphs exports_two c_uses_b)).types) refl c.t c.u c.on_cycle;
  world = _;
  there = (0, lit< tt, refl);
  conflict = (2, 1, (1, lit< tt, refl), (0, lit< tt, refl), (not_b, 0, (0 ∷ [], ((0, lit< tt, refl), refl)), (0, lit< tt, refl)));
  name_is = (
    key.Interface 2,
    (entry_of 2, record { before = entry_of 0 ∷ []; after = []; are = refl; earlier = not_first; is = (2, (0, lit< tt, refl), (1, 1, (0, lit< tt, refl), ([], refl), (not_b, 0, (0 ∷ [], ((0, lit< tt, refl), refl)), (0, lit< tt, refl)))) }, refl),
    refl,
  );
  span_is = refl;
})

pub refusals : ExamplesOfRefusals
unfolding post_order post_order_within structure structure_within
refusals = record {
  conflict = conflict;
  no_conflict = λ span name c. in_no_conflict (merge_of_graphs exports_two b_alone) refl span name (of_conflict _ span name c);
  cycle_a = merging.package_cycle_6 _ (are_one _ refl refl refl) (record { p = 0; q = 1; on_cycle = record { is_used = (0, lit< tt, refl); leads_back = (0 ∷ [], ((0, lit< tt, refl), refl)) }; there = _; is = refl; home_is = refl });
  cycle_b = merging.package_cycle_6 _ (are_one _ refl refl refl) (record { p = 1; q = 0; on_cycle = record { is_used = (0, lit< tt, refl); leads_back = (1 ∷ [], ((0, lit< tt, refl), refl)) }; there = _; is = refl; home_is = refl });
  no_cycle = λ span home c. let is = of_cycle _ span home c in no_cycle (λ i. i) _ refl is.p is.q is.on_cycle;
  gates = disagreeing _ _ (merging.types (record { x = 0; from = _; x' = 0; into = _; from_is = refl; matched = refl; into_is = refl }));
  no_gate = nowhere _ _ (record { types = refl; interfaces = refl; worlds = refl });
  borrow = merging.borrow_in_result_15 _ (are_one _ refl refl refl) (record { f = _; t' = 1; moved = (0, lit< tt, refl); result_is = (0, lit< tt, refl); holds = (1, ([], refl), (0, refl)); message_is = refl });
  own = λ span message c. results_fine _ refl message (of_borrow _ span message c);
  stays = λ span message c. results_fine _ refl message (of_borrow _ span message c);
  circle_x = merging.interface_cycle_22 _ (are_one _ refl refl refl) (record { i = 1; j = 0; on_cycle = record { is_used = (0, lit< tt, refl); leads_back = (1 ∷ [], ((0, lit< tt, refl), refl)) }; id = _; id_is = refl; message_is = refl });
  circle_y = merging.interface_cycle_22 _ (are_one _ refl refl refl) (record { i = 0; j = 1; on_cycle = record { is_used = (0, lit< tt, refl); leads_back = (0 ∷ [], ((0, lit< tt, refl), refl)) }; id = _; id_is = refl; message_is = refl });
  no_circle = λ span message c. let is = of_circle _ span message c in no_cycle (λ i. i) _ refl is.i is.j is.on_cycle;
  too_far = merging.offset_overflow_27 5 10 (1, lit< tt, refl) (lit≤ tt);
  just_fits = λ c. fits _ refl (of_overflow _ c);
  field_too_far = merging.offset_overflow_27 5 10 (2, lit< tt, refl) (lit≤ tt);
  field_fits = λ c. fits _ refl (of_overflow _ c);
  unknown_fits = λ c. fits _ refl (of_overflow _ c);
  no_memory = none_of_memory;
}
