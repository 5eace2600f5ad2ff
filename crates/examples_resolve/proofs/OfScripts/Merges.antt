-- Steps that merge small graphs, and what they aren't.
use Rattle.std.proofs.Common.{◌≡◌, ◌∙◌, ◌≤◌, ◌+◌, ◌^◌, inl, inr, ℕ, List, [], length, slice_get, slice_index_or, refl, sym, ap, lit<, lit≤, arith}
use Rattle.std.proofs.lemmas.Bool.{false≢true}
use Rattle.std.specs.Option.{option_map_or}
use Rattle.std.specs.Prelude.{codes}
use Rattle.wit_values.specs.facts.Lists.{differ}
use Rattle.wit_sources.specs.SourceMap.{Sources}
use Rattle.wit_sources.specs.declared.source_map.SourceFile.{SourceFile}
use Rattle.wit_data.specs.declared.interface.Interface.{Interface}
use Rattle.wit_graph_data.specs.examples.Samples.{foo_bar}
use Rattle.wit_graph_data.specs.declared.features.Features.{Features}
use Rattle.wit_graph_data.specs.declared.graph.Graph.{Graph}
use Rattle.wit_graph_data.specs.declared.error_kind.ResolveErrorKind.{ResolveErrorKind}
use Rattle.wit_graph_data.specs.declared.error_kind.ResolveErrorKind.TheVariants.{OffsetOverflow}
use Rattle.wit_graph_theory.specs.examples.TestFacts.{feature_of}
use Rattle.wit_remap.specs.declared.remap.Remap.{Remap}
use Rattle.wit_merge_match.specs.Remapped.{merge_remap}
use Rattle.wit_merge_spec.specs.Cause.{MergeIsAccepted}
use Rattle.wit_merge_spec.specs.Matches.{GraphMerge}
use Rattle.wit_merge_spec.specs.Merged.{merged}
use Rattle.wit_resolve_graph.specs.Merging.{FilesPass, Merges, merge_of}
use Rattle.wit_resolve_graph.specs.State.{State, new_state}
use Rattle.wit_resolve_graph.specs.declared.command.Reply.TheVariants.{Merged}
use Rattle.examples_resolve.proofs.OfScripts.Mergeable.{gates_apart, gates_merge, packages_merge, told_gates}
use Rattle.examples_resolve.proofs.OfScripts.Steps.{is_other_rule, is_with_prereleases}
use Rattle.examples_resolve.specs.script.MergeExamples.{ExamplesOfMerges, ExamplesOfRefusedMerges, MayMerge, at}
use Rattle.examples_resolve.specs.script.SmallGraphs.{after, first_of, foo_baz, gate, one, second_of}

-- ---- what tells states apart

abbrev pub packages_in : State → ℕ
packages_in s = length s.graph.packages

abbrev first_path : Sources → List ℕ
first_path files = option_map_or (λ (f : SourceFile). f.path) (slice_get files.files 0) []

-- the feature under which the first interface is
abbrev pub gate_in : Graph → List ℕ
gate_in g = option_map_or (λ (i : Interface). feature_of i.stability) (slice_get g.interfaces 0) []

abbrev first_id : Remap → ℕ
first_id remap = slice_index_or remap.packages 0 0

pub g_not_f : codes "g" ≡ codes "f" → ⊥
g_not_f = differ (codes "g") (codes "f") refl

-- ---- what is done

abbrev of_states : Graph → Graph → GraphMerge
of_states g other = merge_of (first_of g) (second_of other)

-- a merge is done where no cause holds against it
merges : (g other made : Graph) (remap : Remap) → MergeIsAccepted (of_states g other) → made ≡ merged (of_states g other) → remap ≡ merge_remap (of_states g other) → MayMerge g other (Merged remap) (after made)
merges g other made remap accepted graph remap_is =
    (after made, record { fits = lit< tt; accepted = accepted; graph = graph; features = refl; rule = refl; files = refl; remap_is = remap_is }, refl)

-- files that pass the end are told of as that
passing_is : (old other : State) (error : ResolveErrorKind) → FilesPass old other error → (error ≡ OffsetOverflow) × (2 ^ 32 ≤ old.source_map.end + other.source_map.end)
passing_is old other OffsetOverflow far = (refl, far)
passing_is old other _ far = absurd far

too_many : 4294967296 ≤ 4294967295 → ⊥
too_many past = absurd (omega (arith, past))

nothing_merged : Merges new_state new_state (at []) new_state
nothing_merged = record { fits = lit< tt; accepted = packages_merge _ _ _ _ _ refl; graph = refl; features = refl; rule = refl; files = refl; remap_is = refl }

pub merges_are : ExamplesOfMerges
merges_are = record {
  nothing_to_nothing = (new_state, nothing_merged, refl);
  nothing_comes = merges _ _ _ _ (packages_merge _ _ _ _ _ refl) refl refl;
  not_its_graph = λ run. let count : 0 ≡ 1 = ap packages_in run.2 ∙ ap (λ (g : Graph). length g.packages) run.1.graph in absurd (omega (arith, count));
  not_more = λ run. let count : 2 ≡ 1 = ap packages_in run.2 ∙ ap (λ (g : Graph). length g.packages) run.1.graph in absurd (omega (arith, count));
  not_its_features = λ run. false≢true (sym (ap (λ (s : State). s.features.all) run.2 ∙ ap (λ (f : Features). f.all) run.1.features));
  not_its_rule = λ run. false≢true (sym (ap is_other_rule run.2 ∙ ap is_with_prereleases run.1.rule));
  not_without_file = λ run. let ends : 10 ≡ 20 = ap (λ (s : State). s.source_map.end) run.2 ∙ ap (λ (f : Sources). f.end) run.1.files in absurd (omega (arith, ends));
  not_where_it_was = λ run. g_not_f (ap (λ (s : State). first_path s.source_map) run.2 ∙ ap first_path run.1.files);
  not_in_front = λ run. g_not_f (ap (λ (s : State). first_path s.source_map) run.2 ∙ ap first_path run.1.files);
  not_done = λ run. run.1;
  not_pushed = λ run. run.1;
  no_world = λ run. run.1;
  not_to_a_place = λ run. let count : 1 ≡ 0 = ap (λ (r : Remap). length r.packages) run.1.remap_is in absurd (omega (arith, count));
  package_comes = merges _ _ _ _ (packages_merge _ _ _ _ _ refl) refl refl;
  package_alone = merges _ _ _ _ (packages_merge _ _ _ _ _ refl) refl refl;
  package_there = merges _ _ _ _ (packages_merge _ _ _ _ _ refl) refl refl;
  not_left_out = λ run. let count : 1 ≡ 2 = ap packages_in run.2 ∙ ap (λ (g : Graph). length g.packages) run.1.graph in absurd (omega (arith, count));
  not_before = λ run. let id : 0 ≡ 1 = ap first_id run.1.remap_is in absurd (omega (arith, id));
  not_its_id = λ run. let id : 0 ≡ 1 = ap first_id run.1.remap_is in absurd (omega (arith, id));
  interface_there = merges _ _ _ _ (gates_merge (codes "f") (codes "f") 10 refl) refl refl;
  not_refused = λ error new run.
      elim run.1.cause [
        | inl memory ↦ memory
        | inr told ↦ elim told [
          | inl cause ↦ absurd (packages_merge _ _ _ _ _ refl error cause)
          | inr far ↦ let past : 4294967296 ≤ 20 = (passing_is (first_of (one foo_bar)) (second_of (one foo_baz)) error far).1 in absurd (omega (arith, past))
        ]
      ];
  rule_stays = (_, refl, (_, record { fits = lit< tt; accepted = packages_merge _ _ _ _ _ refl; graph = refl; features = refl; rule = refl; files = refl; remap_is = refl }, refl));
  not_unset = λ run. false≢true (ap is_other_rule run.2.2 ∙ (ap is_with_prereleases run.2.1.rule ∙ ap is_other_rule run.1));
  reply_missing = λ run. run;
}

-- ---- what is refused

pub gates_f_g : gate (codes "g") ≡ gate (codes "f") → ⊥
gates_f_g same = g_not_f (ap feature_of same)

pub refused_are : ExamplesOfRefusedMerges
refused_are = record {
  apart = (_, record { cause = inr (inl (gates_apart (codes "f") (codes "g") 10 gates_f_g)); past_end = λ past. absurd (omega (arith, past)); graph = refl; features = refl; rule = refl; files = refl }, refl);
  not_its_graph = λ run. g_not_f (ap (λ (s : State). gate_in s.graph) run.2 ∙ ap gate_in run.1.graph);
  not_nothing = λ run. let count : 0 ≡ 1 = ap packages_in run.2 ∙ ap (λ (g : Graph). length g.packages) run.1.graph in absurd (omega (arith, count));
  not_its_features = λ run. false≢true (sym (ap (λ (s : State). s.features.all) run.2 ∙ ap (λ (f : Features). f.all) run.1.features));
  not_its_rule = λ run. false≢true (sym (ap is_other_rule run.2 ∙ ap is_with_prereleases run.1.rule));
  not_without_file = λ run. let ends : 10 ≡ 20 = ap (λ (s : State). s.source_map.end) run.2 ∙ ap (λ (f : Sources). f.end) run.1.files in absurd (omega (arith, ends));
  not_transformed = λ new run.
      elim run.1.cause [
        | inl memory ↦ cc
        | inr told ↦ elim told [ inl cause ↦ gates_f_g (told_gates (codes "f") (codes "g") 10 _ _ _ cause).0 | inr far ↦ far ]
      ];
  not_done = λ remap new run. run.1.accepted _ (gates_apart (codes "f") (codes "g") 10 gates_f_g);
  no_cause = λ span from into new run.
      elim run.1.cause [
        | inl memory ↦ cc
        | inr told ↦ elim told [ inl cause ↦ gates_merge (codes "f") (codes "f") 10 refl _ cause | inr far ↦ far ]
      ];
  too_far = (_, record { cause = inr (inr (lit≤ tt)); past_end = λ past. inr refl; graph = refl; features = refl; rule = refl; files = refl }, refl);
  not_placed = λ run. let ends : 4294967296 ≡ 4294967290 = ap (λ (s : State). s.source_map.end) run.2 ∙ ap (λ (f : Sources). f.end) run.1.files in absurd (omega (arith, ends));
  not_merged = λ remap new run. let fits = run.1.fits in absurd (omega (arith, fits));
  just_fits = (_, record { fits = lit< tt; accepted = packages_merge _ _ _ _ _ refl; graph = refl; features = refl; rule = refl; files = refl; remap_is = refl }, refl);
  not_too_far = λ new run.
      elim run.1.cause [
        | inl memory ↦ cc
        | inr told ↦ elim told [ inl cause ↦ packages_merge [] [] [] [] 4294967290 refl _ cause | inr far ↦ too_many far ]
      ];
  memory_before = (_, record { cause = inl refl; past_end = λ past. inl refl; graph = refl; features = refl; rule = refl; files = inl refl }, refl);
  memory_after = (_, record { cause = inl refl; past_end = λ past. inl refl; graph = refl; features = refl; rule = refl; files = inr refl }, refl);
  memory_not_alone = λ run.
      elim run.1.files [
        | inl before ↦ g_not_f (ap (λ (s : State). first_path s.source_map) run.2 ∙ ap first_path before)
        | inr behind ↦ g_not_f (ap (λ (s : State). first_path s.source_map) run.2 ∙ ap first_path behind)
      ];
  memory_not_merged = λ run. let count : 2 ≡ 1 = ap packages_in run.2 ∙ ap (λ (g : Graph). length g.packages) run.1.graph in absurd (omega (arith, count));
}
