-- The examples of worlds that a package is refused for.
use Rattle.std.proofs.Common.{◌≡◌, ◌∙◌, ℕ, zero, suc, true, List, [], ◌∷◌, Some, None, slice_get, refl, ap, sym, subst, inl, inr, lit<, Contains, arith}
use Rattle.std.proofs.lemmas.Bool.{false≢true}
use Rattle.std.specs.Prelude.{codes, is_some}
use Rattle.wit_values.specs.facts.Lists.{differ}
use Rattle.wit_digraph.specs.Relation.{direct}
use Rattle.wit_data.specs.Entries.{Entry}
use Rattle.wit_data.specs.Uses.{uses_of}
use Rattle.wit_data.specs.declared.world.IncludeName.{IncludeName}
use Rattle.wit_data.specs.declared.stability.Stability.{Stability}
use Rattle.wit_data.specs.declared.world.World.{World}
use Rattle.wit_data.specs.declared.world.WorldInclude.{WorldInclude}
use Rattle.wit_data.specs.declared.world.WorldItem.{WorldItem}
use Rattle.wit_data.specs.declared.stability.Stability.TheVariants.{Unknown}
use Rattle.wit_data.specs.declared.world.WorldItem.TheVariants as item
use Rattle.wit_data.specs.declared.world.WorldKey.TheVariants as key
use Rattle.wit_elaboration.specs.Imported.{HasTransitiveConflict, IsEntryInConflict}
use Rattle.wit_graph_data.specs.declared.cause.Cause.TheVariants as cause
use Rattle.wit_graph_data.specs.declared.error_kind.ResolveErrorKind.{ResolveErrorKind}
use Rattle.wit_graph_data.specs.declared.error_kind.ResolveErrorKind.TheVariants.{InvalidTransitiveDependency, ItemShadowing, Semantic, StabilityMismatch}
use Rattle.wit_graph_data.specs.examples.Samples.{entry_of, no_docs, world_of}
use Rattle.wit_graph_theory.specs.examples.TestFacts.{feature_of, none_in, one_of_two, only_one}
use Rattle.wit_graph_theory.specs.facts.ListFacts.{contained_at}
use Rattle.wit_labels.specs.examples.Examples.{function_entry, named_as}
use Rattle.wit_labels.specs.Rename.{renamed_label_by}
use Rattle.wit_link_spec.specs.Addition.{Addition}
use Rattle.wit_link_spec.specs.Cause as reason
use Rattle.wit_link_spec.specs.Gates.{OptionalSpan}
use Rattle.wit_link_spec.specs.Gates as asked
use Rattle.wit_link_spec.specs.Include.{EntryLists}
use Rattle.wit_link_spec.specs.Reasons.{IsResolved, LacksVersion}
use Rattle.wit_link_spec.specs.WorldReasons.{IsRenamed, conflict_4, mismatch_8, no_getter_18, not_strongly_unique_17, of_imports, of_labels_alone, rename_unmatched_16, shadowing_7}
use Rattle.wit_remap_spec.specs.Joined.{HasStability}
use Rattle.examples_resolve.proofs.OfGraphs.AtWorlds.{AtInclude, IsCauseAtFinish, IsCauseAtInclude, at_world, fine_without, include_same, list_world, no_include, of_finish, of_first, of_first_include, of_include}
use Rattle.examples_resolve.proofs.OfGraphs.HasImage.{image}
use Rattle.examples_resolve.proofs.OfGraphs.Matching.{ClashAt, LonelySetterAt, apart_of, of_alike, of_conflict, of_getter, of_mismatch, of_rename, of_shadowing, unmatched_of}
use Rattle.examples_resolve.proofs.OfGraphs.WorldTests.{conflict_of, none_alike, none_lacks, unshadowed}
use Rattle.examples_resolve.specs.graph.Packages.{adding, all_features, exporting_with, gate_f, gate_g, gated_entry, including_package, no_features, since_package, three, with_world}
use Rattle.examples_resolve.specs.graph.WorldCauses.{ExamplesOfWorldCauses, importing}
use Rattle.wit_link_spec.specs.steps.Parts.{AtWorld, IsReached}

-- the first world is reached
pub first_reached : (a : Addition) → IsReached a 0
first_reached a i below = absurd (omega (arith, below))

pub other_feature : gate_g ≡ gate_f → ⊥
other_feature same = differ (codes "g") (codes "f") refl (ap feature_of same)

-- ---- a world that includes w

abbrev gates : Stability → List ℕ → List IncludeName → Addition
gates note label names = adding all_features (with_world note label) (including_package names)

gates_image : (note : Stability) (label : List ℕ) (names : List IncludeName) → IsResolved (gates note label names)
gates_image note label names = image (gates note label names) (record { packages = refl; items = refl; types = refl; interfaces = refl; worlds = refl })

abbrev the_include : (note : Stability) (label : List ℕ) (names : List IncludeName) → AtInclude (gates note label names) 0 0
the_include note label names = record { at = record { id = 1; world = _; is = refl }; include = _; is = refl; before = _; before_is = refl; old = _; old_is = refl }

-- what holds of an include holds of this one
of_gates : (note : Stability) (label : List ℕ) (names : List IncludeName) (P : ℕ → ℕ → Type 0) → ((k j : ℕ) → P k j → AtInclude (gates note label names) k j) → (P 0 0 → ⊥) → (k j : ℕ) → P k j → ⊥
of_gates note label names P at not k j p = of_first_include (gates note label names) (λ k. refl) (the_include note label names).at (λ j. refl) P at not k j p

mismatch : (label : List ℕ) (names : List IncludeName) → IsCauseAtInclude (gates gate_g label names) 0 0 (StabilityMismatch (Some (50, 60)) gate_g gate_f)
mismatch label names = record {
  at = the_include gate_g label names;
  cause = of_imports _
      (mismatch_8 0 gate_g gate_f (no_docs, None, None, (0, lit< tt, refl)) (no_docs, None, None, (0, lit< tt, refl)) (record { from_known = λ same. cc; into_known = λ same. cc; differ = other_feature }) refl);
}

shadows : (note : Stability) → IsCauseAtInclude (gates note (codes "f") []) 0 0 (ItemShadowing (Some (50, 60)) (codes "import") (codes "f"))
shadows note = record {
  at = the_include note (codes "f") [];
  cause = of_imports _ (shadowing_7 (codes "f") (1, refl, (1, lit< tt, refl)));
}

-- a cause of the first include of the first world is one of the addition
pub at_first_include : (a : Addition) (error : ResolveErrorKind) → IsResolved a → IsCauseAtInclude a 0 0 error → reason.IsAdditionCause a error
at_first_include a error image is = reason.of_world 0 error (first_reached a) (at_world a 0 error (of_include 0 image (λ i below. absurd (omega (arith, below))) is))

-- ---- the gate that is there

abbrev pub stability_of : WorldItem → Stability
stability_of (item.Interface i note docs span external_id) = note
stability_of (item.Function f) = Unknown
stability_of (item.Type_ t span) = Unknown

key_apart : (i : ℕ) (label : List ℕ) → key.Name label ≡ key.Interface i → ⊥
key_apart i label same = cc

-- the only interface of two entries has its gate
gate_is : (note : Stability) (f : Entry) (label : List ℕ) (i : ℕ) (has : Stability) → f.0 ≡ key.Name label → HasStability (gated_entry note ∷ f ∷ []) i has → note ≡ has
gate_is note f label i has named (docs, place, external_id, (zero, below, is)) = ap (λ (e : Entry). stability_of e.1) is
gate_is note f label i has named (docs, place, external_id, (suc zero, below, is)) = absurd (key_apart i label (sym named ∙ ap (λ (e : Entry). e.0) is))
gate_is note f label i has named (docs, place, external_id, (suc (suc k), below, is)) = absurd (omega (arith, below))

none_has : (i : ℕ) (has : Stability) → HasStability [] i has → ⊥
none_has i has (docs, place, external_id, inside) = none_in _ inside

same_gate : (span : OptionalSpan) (brings has : Stability) → IsCauseAtInclude (gates gate_f (codes "f") []) 0 0 (StabilityMismatch span brings has) → ⊥
same_gate span brings has x =
    let same = include_same (gates gate_f (codes "f") []) 0 0 x.at (the_include gate_f (codes "f") []) in
    let c = apart_of _ _ _ _ span brings has x.cause in
    elim c.lists [
      | inl both ↦
          let there : HasStability (gated_entry gate_f ∷ function_entry (codes "f") ∷ []) c.i has = subst (λ (es : List Entry). HasStability es c.i has) (both.0 ∙ ap (λ (l : EntryLists). l.imports) same.lists_are) c.there in
          let comes : HasStability (gated_entry gate_f ∷ function_entry (codes "f") ∷ []) c.i brings = subst (λ (es : List Entry). HasStability es c.i brings) (both.1 ∙ ap (λ (w : World). w.imports) same.old_is) c.comes in
          c.apart.differ (sym (gate_is gate_f _ (codes "f") c.i brings refl comes) ∙ gate_is gate_f _ (codes "f") c.i has refl there)
      | inr both ↦ none_has c.i has (subst (λ (es : List Entry). HasStability es c.i has) (both.0 ∙ ap (λ (l : EntryLists). l.exports) same.lists_are) c.there)
    ]

-- ---- renamings

pub label_same : (a b : List ℕ) → key.Name a ≡ key.Name b → a ≡ b
label_same a b same = cc

-- the renaming of x is of no label of w
unmatched : IsRenamed (world_of (codes "w") (gated_entry gate_g ∷ function_entry (codes "f") ∷ []) []) (named_as (codes "x") (codes "y")) → ⊥
unmatched (label, (zero, below, is), matches) = absurd (key_apart 0 label (sym is))
unmatched (label, (suc zero, below, is), matches) =
    false≢true (subst (λ (l : List ℕ). is_some (renamed_label_by (named_as (codes "x") (codes "y")) l) ≡ true) (sym (label_same (codes "f") label is)) matches)
unmatched (label, (suc (suc k), below, is), matches) = absurd (omega (arith, below))

renames : (span : OptionalSpan) (message : List ℕ) → IsCauseAtInclude (gates gate_g (codes "f") (named_as (codes "f") (codes "y") ∷ [])) 0 0 (Semantic span message cause.RenameUnmatched) → ⊥
renames span message x =
    let same = include_same (gates gate_g (codes "f") (named_as (codes "f") (codes "y") ∷ [])) 0 0 x.at (the_include gate_g (codes "f") (named_as (codes "f") (codes "y") ∷ [])) in
    let found = unmatched_of _ _ _ _ span message x.cause in
    let inside : Contains (named_as (codes "f") (codes "y") ∷ []) found.1 =
    contained_at (named_as (codes "f") (codes "y") ∷ []) found.0 found.1 (subst (λ (names : List IncludeName). slice_get names found.0 ≡ Some found.1) (ap (λ (i : WorldInclude). i.names) same.include_is) found.2) in
    let name : named_as (codes "f") (codes "y") ≡ found.1 = only_one (named_as (codes "f") (codes "y")) found.1 inside in
    found.3 (subst (λ (n : IncludeName). IsRenamed x.at.old n) name (subst (λ (w : World). IsRenamed w (named_as (codes "f") (codes "y"))) (sym same.old_is) (codes "f", (1, lit< tt, refl), refl)))

-- ---- no image

lacks_version : LacksVersion (adding all_features (with_world gate_g (codes "f")) since_package) None (codes "package [foo:main] contains a feature gate with a version specifier, so it must have a version")
lacks_version = record { since = _; deprecated = _; place = None; asked = asked.of_interface 1 _ _ refl (0, lit< tt, refl); no_version = refl; span_is = refl; message_is = refl }

-- ---- labels of a world that includes nothing

abbrev two_labels : List ℕ → List ℕ → Addition
two_labels a b = importing (function_entry a ∷ function_entry b ∷ [])

abbrev labelled_world : (a b : List ℕ) → AtWorld (two_labels a b) 0
labelled_world a b = record { id = 0; world = _; is = refl }

not_alike : ClashAt (two_labels (codes "ab") (codes "ac")) 0 → ⊥
not_alike = none_alike (two_labels (codes "ab") (codes "ac")) 0 (labelled_world (codes "ab") (codes "ac")) (record { imports = refl; exports = refl })

has_getter : LonelySetterAt (two_labels (codes "[get]p") (codes "[set]p")) 0 → ⊥
has_getter = none_lacks (two_labels (codes "[get]p") (codes "[set]p")) 0 (labelled_world (codes "[get]p") (codes "[set]p")) (record { imports = refl; exports = refl })

-- ---- exports

abbrev exporting : List ℕ → Addition
exporting other = adding no_features three (exporting_with other)

c_image : IsResolved (exporting (codes "c"))
c_image = image (exporting (codes "c")) (record { packages = refl; items = refl; types = refl; interfaces = refl; worlds = refl })

abbrev exporting_world : (other : List ℕ) → AtWorld (exporting other) 0
exporting_world other = record { id = 0; world = _; is = refl }

-- b isn't exported
b_outside : Contains {X = ℕ} (0 ∷ 2 ∷ []) 1 → ⊥
b_outside (zero, below, is) = absurd (omega (arith, is))
b_outside (suc zero, below, is) = absurd (omega (arith, is))
b_outside (suc (suc k), below, is) = absurd (omega (arith, below))

-- nothing is reached from a in a step or more
a_clear : (e : Entry) → Contains (entry_of 0 ∷ []) e → IsEntryInConflict (uses_of three.types three.interfaces) (entry_of 0 ∷ entry_of 2 ∷ []) e → ⊥
a_clear e inside conflict =
    let there : IsEntryInConflict (uses_of three.types three.interfaces) (entry_of 0 ∷ entry_of 2 ∷ []) (entry_of 0) =
    subst (IsEntryInConflict (uses_of three.types three.interfaces) (entry_of 0 ∷ entry_of 2 ∷ [])) (sym (only_one (entry_of 0) e inside)) conflict in
    none_in there.2.0 (subst (λ (i : ℕ). Contains (direct (uses_of three.types three.interfaces) i) there.2.0) (sym (only_one 0 there.0 there.1)) there.2.2)

-- a and b use nothing but a
closed : HasTransitiveConflict (uses_of three.types three.interfaces) (entry_of 0 ∷ entry_of 1 ∷ []) → ⊥
closed (x, d, exported, uses, (outside, j, reaches, is_exported)) =
    elim (one_of_two 0 1 x exported) [
      | inl of_a ↦ none_in d (subst (λ (i : ℕ). Contains (direct (uses_of three.types three.interfaces) i) d) (sym of_a) uses)
      | inr of_b ↦
          let a : 0 ≡ d = only_one 0 d (subst (λ (i : ℕ). Contains (direct (uses_of three.types three.interfaces) i) d) (sym of_b) uses) in
          outside (subst (λ (i : ℕ). Contains (0 ∷ 1 ∷ []) i) a (0, lit< tt, refl))
    ]

-- ---- the examples

abbrev one_setter : Addition
one_setter = importing (function_entry (codes "[set]p") ∷ [])

pub world_causes : ExamplesOfWorldCauses
world_causes = record {
  conflict = reason.of_world 0 _ (first_reached (exporting (codes "c"))) (at_world (exporting (codes "c")) 0 _ (of_finish c_image (λ j. fine_without (exporting (codes "c")) 0 j (no_include (exporting (codes "c")) 0 (exporting_world (codes "c")) j refl)) (record {
    at = exporting_world (codes "c");
    whole = _;
    whole_is = refl;
    cause = conflict_4 (codes "foo:bar/c")
        (2, 1, (1, lit< tt, refl), (0, lit< tt, refl), (b_outside, 0, (0 ∷ [], ((0, lit< tt, refl), refl)), (0, lit< tt, refl)))
        (key.Interface 2, (entry_of 2, record { before = entry_of 0 ∷ []; after = []; are = refl; earlier = a_clear; is = (2, (0, lit< tt, refl), (1, 1, (0, lit< tt, refl), ([], refl), (b_outside, 0, (0 ∷ [], ((0, lit< tt, refl), refl)), (0, lit< tt, refl)))) }, refl), refl);
  })));
  closed = λ span name c.
      let found = of_conflict (exporting (codes "b")) span name c in
      of_first (exporting (codes "b")) (λ k. refl) (λ (k : ℕ). IsCauseAtFinish (exporting (codes "b")) k (InvalidTransitiveDependency span name)) (λ k x. x.at)
      (λ x. closed (conflict_of (exporting (codes "b")) 0 (exporting_world (codes "b")) span name x)) found.0 found.1;
  shadows = at_first_include _ _ (gates_image gate_g (codes "f") []) (shadows gate_g);
  other_label = λ span word name c.
      let found = of_shadowing (gates gate_g (codes "h") []) span word name c in
      of_gates gate_g (codes "h") [] (λ (k j : ℕ). IsCauseAtInclude (gates gate_g (codes "h") []) k j (ItemShadowing span word name)) (λ k j x. x.at)
      (unshadowed (gates gate_g (codes "h") []) 0 0 (the_include gate_g (codes "h") []) refl refl span word name) found.0 found.1 found.3;
  other_gate = at_first_include _ _ (gates_image gate_g (codes "h") []) (mismatch (codes "h") []);
  no_shadow = λ span word name c.
      let found = of_shadowing (adding all_features (with_world gate_g (codes "f")) since_package) span word name c in
      found.2.has_image.version None (codes "package [foo:main] contains a feature gate with a version specifier, so it must have a version") lacks_version;
  mismatch = at_first_include _ _ (gates_image gate_g (codes "f") []) (mismatch (codes "f") []);
  same_gate = λ span brings has c.
      let found = of_mismatch (gates gate_f (codes "f") []) span brings has c in
      of_gates gate_f (codes "f") [] (λ (k j : ℕ). IsCauseAtInclude (gates gate_f (codes "f") []) k j (StabilityMismatch span brings has)) (λ k j x. x.at) (same_gate span brings has) found.0 found.1 found.3;
  same_label = at_first_include _ _ (gates_image gate_f (codes "f") []) (shadows gate_f);
  unmatched = at_first_include _ _ (gates_image gate_g (codes "f") (named_as (codes "x") (codes "y") ∷ [])) (record {
    at = the_include gate_g (codes "f") (named_as (codes "x") (codes "y") ∷ []);
    cause = rename_unmatched_16 0 (named_as (codes "x") (codes "y")) refl (λ i x at. cc) unmatched;
  });
  renames = λ span message c.
      let found = of_rename (gates gate_g (codes "f") (named_as (codes "f") (codes "y") ∷ [])) span message c in
      of_gates gate_g (codes "f") (named_as (codes "f") (codes "y") ∷ []) (λ (k j : ℕ). IsCauseAtInclude (gates gate_g (codes "f") (named_as (codes "f") (codes "y") ∷ [])) k j (Semantic span message cause.RenameUnmatched))
      (λ k j x. x.at) (renames span message) found.0 found.1 found.3;
  renamed_gate = at_first_include _ _ (gates_image gate_g (codes "f") (named_as (codes "f") (codes "y") ∷ [])) (mismatch (codes "f") (named_as (codes "f") (codes "y") ∷ []));
  alike = reason.of_world 0 _ (first_reached (two_labels (codes "ab") (codes "AB"))) (of_labels_alone 0 _ refl refl (inl (not_strongly_unique_17 (codes "AB") (codes "ab") (0, 1, lit< tt, refl, refl, refl))));
  not_alike = λ span message c.
      let found = of_alike (two_labels (codes "ab") (codes "ac")) span message c in
      of_first (two_labels (codes "ab") (codes "ac")) (λ k. refl) (ClashAt (two_labels (codes "ab") (codes "ac"))) (λ k x. list_world _ k x.lists x.have) not_alike found.0 found.2;
  no_getter = reason.of_world 0 _ (first_reached one_setter) (of_labels_alone 0 _ refl refl
      (inl (no_getter_18 (codes "[set]p") _ (0, lit< tt, refl) refl (λ has. differ (codes "[set]p") (codes "[get]p") refl (label_same _ _ (only_one (key.Name (codes "[set]p")) (key.Name (codes "[get]p")) has))))));
  has_getter = λ span message c.
      let found = of_getter (two_labels (codes "[get]p") (codes "[set]p")) span message c in
      of_first (two_labels (codes "[get]p") (codes "[set]p")) (λ k. refl) (LonelySetterAt (two_labels (codes "[get]p") (codes "[set]p"))) (λ k x. list_world _ k x.lists x.have) has_getter found.0 found.1;
}
