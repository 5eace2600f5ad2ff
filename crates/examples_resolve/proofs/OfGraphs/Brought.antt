-- The examples of reasons among exports, and of those that an include brings.
use Rattle.std.proofs.Common.{◌≡◌, ◌∙◌, ℕ, zero, suc, List, [], ◌∷◌, None, refl, ap, sym, subst, inl, inr, lit<, Contains, arith}
use Rattle.std.specs.Prelude.{codes}
use Rattle.wit_values.specs.facts.Lists.{differ}
use Rattle.wit_digraph.specs.Relation.{IsPath, direct}
use Rattle.wit_data.specs.Entries.{Entry}
use Rattle.wit_data.specs.Uses.{uses_of}
use Rattle.wit_data.specs.declared.stability.Stability.{Stability}
use Rattle.wit_data.specs.declared.world.World.{World}
use Rattle.wit_data.specs.declared.stability.Stability.TheVariants.{Unknown}
use Rattle.wit_data.specs.declared.world.WorldItem.TheVariants as item
use Rattle.wit_data.specs.declared.world.WorldKey.TheVariants as key
use Rattle.wit_elaboration.specs.Imported.{HasTransitiveConflict}
use Rattle.wit_graph_data.specs.declared.error_kind.ResolveErrorKind.TheVariants.{InvalidTransitiveDependency, ItemShadowing, StabilityMismatch}
use Rattle.wit_graph_data.specs.examples.Samples.{entry_of, no_docs, sample}
use Rattle.wit_graph_theory.specs.examples.TestFacts.{none_in, one_of_two, only_one}
use Rattle.wit_labels.specs.examples.Examples.{function_entry}
use Rattle.wit_link_spec.specs.Addition.{Addition}
use Rattle.wit_link_spec.specs.Cause as reason
use Rattle.wit_link_spec.specs.Gates.{OptionalSpan}
use Rattle.wit_link_spec.specs.Include.{is_other_package}
use Rattle.wit_remap_spec.specs.Joined.{include_stability, HasStability}
use Rattle.wit_link_spec.specs.Reasons.{IsResolved}
use Rattle.wit_link_spec.specs.WorldReasons.{conflict_4, mismatch_8, no_getter_18, not_strongly_unique_17, of_exports, of_labels, shadowing_7}
use Rattle.examples_resolve.proofs.OfGraphs.AtWorlds.{AtInclude, IsCauseAtFinish, IsCauseAtInclude, all_fine, at_world, include_same, list_world, of_finish, of_first, of_first_include}
use Rattle.examples_resolve.proofs.OfGraphs.HasImage.{image}
use Rattle.examples_resolve.proofs.OfGraphs.Matching.{ClashAt, LonelySetterAt, apart_of, of_alike, of_conflict, of_getter, of_mismatch, of_shadowing}
use Rattle.examples_resolve.proofs.OfGraphs.WorldCauses.{at_first_include, first_reached, label_same, other_feature, stability_of}
use Rattle.examples_resolve.proofs.OfGraphs.WorldTests.{Passes, conflict_of, fine, none_alike, none_lacks, unshadowed}
use Rattle.examples_resolve.specs.graph.Packages.{adding, exporting_c, gate_f, gate_g, gated_entry, including_lists, no_features, since_one, three, three_exporting}
use Rattle.examples_resolve.specs.graph.WorldCauses.{ExamplesOfIncludedCauses, both_export, both_import}
use Rattle.wit_link_spec.specs.steps.Parts.{IncludeIsAccepted}

-- ---- worlds that import a function each

abbrev imports : List ℕ → List ℕ → Addition
imports old new = both_import (function_entry old ∷ []) (function_entry new ∷ [])

imports_image : (old new : List ℕ) → IsResolved (imports old new)
imports_image old new = image (imports old new) (record { packages = refl; items = refl; types = refl; interfaces = refl; worlds = refl })

abbrev import_include : (old new : List ℕ) → AtInclude (imports old new) 0 0
import_include old new = record { at = record { id = 1; world = _; is = refl }; include = _; is = refl; before = _; before_is = refl; old = _; old_is = refl }

imports_fine : (old new : List ℕ) → Passes (imports old new) 0 0 (import_include old new) → (j : ℕ) → IncludeIsAccepted (imports old new) 0 j
imports_fine old new passes j = all_fine (imports old new) (import_include old new) (λ j. refl) (fine (imports old new) 0 0 (import_include old new) passes) j

-- ---- worlds that export something each

abbrev exports : Entry → Entry → Addition
exports old new = both_export (old ∷ []) (new ∷ [])

exports_image : (old new : List ℕ) → IsResolved (exports (function_entry old) (function_entry new))
exports_image old new = image (exports (function_entry old) (function_entry new)) (record { packages = refl; items = refl; types = refl; interfaces = refl; worlds = refl })

abbrev export_include : (old new : List ℕ) → AtInclude (exports (function_entry old) (function_entry new)) 0 0
export_include old new = record { at = record { id = 1; world = _; is = refl }; include = _; is = refl; before = _; before_is = refl; old = _; old_is = refl }

gates_image : (old : Stability) → IsResolved (exports (gated_entry old) (gated_entry gate_f))
gates_image old = image (exports (gated_entry old) (gated_entry gate_f)) (record { packages = refl; items = refl; types = refl; interfaces = refl; worlds = refl })

abbrev gate_include : (old : Stability) → AtInclude (exports (gated_entry old) (gated_entry gate_f)) 0 0
gate_include old = record { at = record { id = 1; world = _; is = refl }; include = _; is = refl; before = _; before_is = refl; old = _; old_is = refl }

-- ---- a `@since` of another package

known : Unknown ≡ since_one → ⊥
known same = cc

only_gate : (i : ℕ) (brings : Stability) → HasStability (gated_entry since_one ∷ []) i brings → since_one ≡ brings
only_gate i brings (docs, place, external_id, inside) =
    ap (λ (e : Entry). stability_of e.1) (only_one (gated_entry since_one) (key.Interface i, item.Interface i brings docs place external_id) inside)

since : (span : OptionalSpan) (brings has : Stability) → IsCauseAtInclude (exports (gated_entry since_one) (gated_entry gate_f)) 0 0 (StabilityMismatch span brings has) → ⊥
since span brings has x =
    let same = include_same (exports (gated_entry since_one) (gated_entry gate_f)) 0 0 x.at (gate_include since_one) in
    let c = apart_of _ _ _ _ span brings has x.cause in
    elim c.lists [
      | inl both ↦
          let comes : HasStability [] c.i brings = subst (λ (es : List Entry). HasStability es c.i brings) (both.1 ∙ ap (λ (w : World). w.imports) same.old_is) c.comes in
          none_in _ comes.3
      | inr both ↦
          let comes : HasStability (gated_entry since_one ∷ []) c.i brings = subst (λ (es : List Entry). HasStability es c.i brings) (both.1 ∙ ap (λ (w : World). w.exports) same.old_is) c.comes in
          let is = only_gate c.i brings comes in
          let counts : include_stability (is_other_package x.at.old.package 1) since_one has ≡ since_one = subst (λ (s : Stability). include_stability (is_other_package x.at.old.package 1) s has ≡ s) (sym is) c.counts in
          let here : Unknown ≡ since_one = subst (λ (w : World). include_stability (is_other_package w.package 1) since_one has ≡ since_one) same.old_is counts in
          known here
    ]

-- ---- conflicts

abbrev exporting : ℕ → Addition
exporting i = adding no_features (three_exporting i) exporting_c

exporting_image : (i : ℕ) → IsResolved (exporting i)
exporting_image i = image (exporting i) (record { packages = refl; items = refl; types = refl; interfaces = refl; worlds = refl })

abbrev exporting_include : (i : ℕ) → AtInclude (exporting i) 0 0
exporting_include i = record { at = record { id = 1; world = _; is = refl }; include = _; is = refl; before = _; before_is = refl; old = _; old_is = refl }

-- b isn't exported beside c and a
b_outside : Contains {X = ℕ} (2 ∷ 0 ∷ []) 1 → ⊥
b_outside (zero, below, is) = absurd (omega (arith, is))
b_outside (suc zero, below, is) = absurd (omega (arith, is))
b_outside (suc (suc k), below, is) = absurd (omega (arith, below))

-- a isn't exported beside c and b
a_outside : (x : ℕ) → 0 ≡ x → Contains {X = ℕ} (2 ∷ 1 ∷ []) x → ⊥
a_outside x same (zero, below, is) = absurd (omega (arith, same, is))
a_outside x same (suc zero, below, is) = absurd (omega (arith, same, is))
a_outside x same (suc (suc k), below, is) = absurd (omega (arith, below))

abbrev uses : List (List ℕ)
uses = uses_of three.types three.interfaces

-- from a nothing is reached but a
only_a : (d j : ℕ) (path : List ℕ) → 0 ≡ d → IsPath uses d path j → 0 ≡ j
only_a d j [] from same = from ∙ same
only_a d j (k ∷ path) from leads = absurd (none_in k (subst (λ (i : ℕ). Contains (direct uses i) k) (sym from) leads.0))

-- what c and b use is exported but for a, and that uses nothing
closed : HasTransitiveConflict uses (entry_of 2 ∷ entry_of 1 ∷ []) → ⊥
closed (x, d, exported, used, (outside, j, reaches, is_exported)) =
    elim (one_of_two 2 1 x exported) [
      | inl of_c ↦
          let b : 1 ≡ d = only_one 1 d (subst (λ (i : ℕ). Contains (direct uses i) d) (sym of_c) used) in
          outside (subst (λ (i : ℕ). Contains (2 ∷ 1 ∷ []) i) b (1, lit< tt, refl))
      | inr of_b ↦
          let a : 0 ≡ d = only_one 0 d (subst (λ (i : ℕ). Contains (direct uses i) d) (sym of_b) used) in
          a_outside j (only_a d j reaches.0 a reaches.1) is_exported
    ]

-- ---- labels with what comes

not_alike : ClashAt (imports (codes "ab") (codes "ac")) 0 → ⊥
not_alike = none_alike (imports (codes "ab") (codes "ac")) 0 (import_include (codes "ab") (codes "ac")).at (record { imports = refl; exports = refl })

getter_comes : LonelySetterAt (imports (codes "[get]p") (codes "[set]p")) 0 → ⊥
getter_comes = none_lacks (imports (codes "[get]p") (codes "[set]p")) 0 (import_include (codes "[get]p") (codes "[set]p")).at (record { imports = refl; exports = refl })

-- the labels of the setter and of f are not that of the getter
no_getter : Contains (key.Name (codes "[set]p") ∷ key.Name (codes "f") ∷ []) (key.Name (codes "[get]p")) → ⊥
no_getter (zero, below, is) = differ (codes "[set]p") (codes "[get]p") refl (label_same _ _ is)
no_getter (suc zero, below, is) = differ (codes "f") (codes "[get]p") refl (label_same _ _ is)
no_getter (suc (suc k), below, is) = absurd (omega (arith, below))

-- ---- a label that is imported, and comes as an export

abbrev crosswise : Addition
crosswise = adding no_features (sample [] (function_entry (codes "f") ∷ [])) (including_lists (function_entry (codes "f") ∷ []) [])

abbrev crosswise_include : AtInclude crosswise 0 0
crosswise_include = record { at = record { id = 1; world = _; is = refl }; include = _; is = refl; before = _; before_is = refl; old = _; old_is = refl }

pub included_causes : ExamplesOfIncludedCauses
included_causes = record {
  conflict = reason.of_world 0 _ (first_reached (exporting 0)) (at_world (exporting 0) 0 _ (of_finish (exporting_image 0) (all_fine (exporting 0) (exporting_include 0) (λ j. refl)
      (fine (exporting 0) 0 0 (exporting_include 0) (record { import_labels = refl; export_labels = refl; import_keys = refl; export_keys = refl; names = refl }))) (record {
        at = (exporting_include 0).at;
        whole = _;
        whole_is = refl;
        cause = conflict_4 (codes "foo:bar/c")
            (2, 1, (0, lit< tt, refl), (0, lit< tt, refl), (b_outside, 0, (0 ∷ [], ((0, lit< tt, refl), refl)), (1, lit< tt, refl))) (
              key.Interface 2,
              (
                entry_of 2,
                record {
                  before = [];
                  after = entry_of 0 ∷ [];
                  are = refl;
                  earlier = λ e inside. absurd (none_in e inside);
                  is = (2, (0, lit< tt, refl), (1, 1, (0, lit< tt, refl), ([], refl), (b_outside, 0, (0 ∷ [], ((0, lit< tt, refl), refl)), (1, lit< tt, refl))));
                },
                refl,
              ),
              refl,
            );
      })));
  closed = λ span name c.
      let found = of_conflict (exporting 1) span name c in
      of_first (exporting 1) (λ k. refl) (λ (k : ℕ). IsCauseAtFinish (exporting 1) k (InvalidTransitiveDependency span name)) (λ k x. x.at)
      (λ x. closed (conflict_of (exporting 1) 0 (exporting_include 1).at span name x)) found.0 found.1;
  shadows = at_first_include _ _ (exports_image (codes "f") (codes "f")) (record {
    at = export_include (codes "f") (codes "f");
    cause = of_exports _ (shadowing_7 (codes "f") (0, refl, (0, lit< tt, refl)));
  });
  imported = λ span word name c.
      let found = of_shadowing crosswise span word name c in
      of_first_include crosswise (λ k. refl) crosswise_include.at (λ j. refl) (λ (k j : ℕ). IsCauseAtInclude crosswise k j (ItemShadowing span word name)) (λ k j x. x.at)
      (unshadowed crosswise 0 0 crosswise_include refl refl span word name) found.0 found.1 found.3;
  mismatch = at_first_include _ _ (gates_image gate_g) (record {
    at = gate_include gate_g;
    cause = of_exports _
        (mismatch_8 0 gate_g gate_f (no_docs, None, None, (0, lit< tt, refl)) (no_docs, None, None, (0, lit< tt, refl)) (record { from_known = λ same. cc; into_known = λ same. cc; differ = other_feature }) refl);
  });
  since = λ span brings has c.
      let found = of_mismatch (exports (gated_entry since_one) (gated_entry gate_f)) span brings has c in
      of_first_include (exports (gated_entry since_one) (gated_entry gate_f)) (λ k. refl) (gate_include since_one).at (λ j. refl)
      (λ (k j : ℕ). IsCauseAtInclude (exports (gated_entry since_one) (gated_entry gate_f)) k j (StabilityMismatch span brings has)) (λ k j x. x.at) (since span brings has) found.0 found.1 found.3;
  alike = reason.of_world 0 _ (first_reached (imports (codes "ab") (codes "AB"))) (at_world (imports (codes "ab") (codes "AB")) 0 _ (of_finish (imports_image (codes "ab") (codes "AB"))
      (imports_fine (codes "ab") (codes "AB") (record { import_labels = refl; export_labels = refl; import_keys = refl; export_keys = refl; names = refl })) (record {
        at = (import_include (codes "ab") (codes "AB")).at;
        whole = _;
        whole_is = refl;
        cause = of_labels _ (inl (not_strongly_unique_17 (codes "ab") (codes "AB") (0, 1, lit< tt, refl, refl, refl)));
      })));
  alike_exports = reason.of_world 0 _ (first_reached (exports (function_entry (codes "ab")) (function_entry (codes "AB")))) (at_world (exports (function_entry (codes "ab")) (function_entry (codes "AB"))) 0 _ (of_finish (exports_image (codes "ab") (codes "AB"))
      (all_fine _ (export_include (codes "ab") (codes "AB")) (λ j. refl)
      (fine _ 0 0 (export_include (codes "ab") (codes "AB")) (record { import_labels = refl; export_labels = refl; import_keys = refl; export_keys = refl; names = refl }))) (record {
        at = (export_include (codes "ab") (codes "AB")).at;
        whole = _;
        whole_is = refl;
        cause = of_labels _ (inr (not_strongly_unique_17 (codes "ab") (codes "AB") (0, 1, lit< tt, refl, refl, refl)));
      })));
  not_alike = λ span message c.
      let found = of_alike (imports (codes "ab") (codes "ac")) span message c in
      of_first (imports (codes "ab") (codes "ac")) (λ k. refl) (ClashAt (imports (codes "ab") (codes "ac"))) (λ k x. list_world _ k x.lists x.have) not_alike found.0 found.2;
  no_getter = reason.of_world 0 _ (first_reached (imports (codes "f") (codes "[set]p"))) (at_world (imports (codes "f") (codes "[set]p")) 0 _ (of_finish (imports_image (codes "f") (codes "[set]p"))
      (imports_fine (codes "f") (codes "[set]p") (record { import_labels = refl; export_labels = refl; import_keys = refl; export_keys = refl; names = refl })) (record {
        at = (import_include (codes "f") (codes "[set]p")).at;
        whole = _;
        whole_is = refl;
        cause = of_labels _ (inl (no_getter_18 (codes "[set]p") _ (0, lit< tt, refl) refl no_getter));
      })));
  getter_comes = λ span message c.
      let found = of_getter (imports (codes "[get]p") (codes "[set]p")) span message c in
      of_first (imports (codes "[get]p") (codes "[set]p")) (λ k. refl) (LonelySetterAt (imports (codes "[get]p") (codes "[set]p"))) (λ k x. list_world _ k x.lists x.have) getter_comes found.0 found.1;
}
