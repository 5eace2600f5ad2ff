-- What is answered to `other` and `merge` of small graphs.
use Rattle.std.proofs.Common.{◌≡◌, ◌∙◌, ◌⊎◌, inl, inr, ℕ, Bool, true, false, List, [], ◌∷◌, Option, None, Some, length, refl, sym, ap, subst, lit<, arith, is_some, unwrap_or}
use Rattle.wit_commands.specs.declared.change.Change.TheVariants as change
use Rattle.std.proofs.lemmas.Bool.{false≢true}
use Rattle.std.specs.Fmt.{digits}
use Rattle.std.specs.Prelude.{codes}
use Rattle.wit_names.specs.declared.track.TrackRule.TheVariants.{WithPrereleases}
use Rattle.wit_graph_data.specs.declared.error_kind.ResolveErrorKind.TheVariants.{OutOfMemory}
use Rattle.wit_graph_data.specs.examples.Samples.{foo_bar}
use Rattle.wit_graph_data.specs.declared.graph.Graph.{Graph}
use Rattle.wit_merge_spec.specs.Cause.{MergeIsAccepted}
use Rattle.wit_merge_spec.specs.Merged.{merged}
use Rattle.wit_resolve_graph.specs.Merging.{merge_of}
use Rattle.wit_resolve_graph.specs.State.{State, new_state}
use Rattle.wit_resolve_graph.specs.Step.{Step}
use Rattle.wit_resolve_graph.specs.declared.command.Command.TheVariants.{Merge}
use Rattle.wit_resolve_graph.specs.declared.command.Reply.{Reply}
use Rattle.wit_resolve_graph.specs.declared.command.Reply.TheVariants as reply
use Rattle.wit_script_lines.specs.declared.request.Request.TheVariants as request
use Rattle.wit_script_lines.specs.facts.OptionFacts.{same-some}
use Rattle.wit_script.specs.Answer.{Answers, CarriesOut, IsAnswer, only_first, reply_text, with_working_state, working_state}
use Rattle.wit_script.specs.declared.answer.Stage.{Stage}
use Rattle.examples_resolve.proofs.OfScripts.Mergeable.{gates_apart, packages_merge}
use Rattle.examples_resolve.proofs.OfScripts.Merges.{gate_in, gates_f_g, merges_are, packages_in, g_not_f, refused_are}
use Rattle.examples_resolve.proofs.OfScripts.Steps.{change-is, is_other_rule, is_with_prereleases, letter, one-step}
use Rattle.examples_resolve.specs.script.MergeExamples.{at, gates_differ}
use Rattle.examples_resolve.specs.script.OtherExamples.{ExamplesOfMergeLines, ExamplesOfOtherLines, bar, baz, gates_told, under_f, under_g}
use Rattle.examples_resolve.specs.script.SmallGraphs.{after, foo_baz, gated, two}
use Rattle.examples_resolve.specs.script.StepExamples.{both}

-- ---- what is answered to a merge

-- merged or refused, by the first letter of the text, and what becomes of the first graph
record IsDone (old other new : State) (text : List ℕ) : Type 0 where
  says : letter text ≡ 109
  accepted : MergeIsAccepted (merge_of old other)
  graph : new.graph ≡ merged (merge_of old other)
  rule : new.track_rule ≡ old.track_rule

record IsRefused (old new : State) (text : List ℕ) : Type 0 where
  says : letter text ≡ 114
  graph : new.graph ≡ old.graph
  rule : new.track_rule ≡ old.track_rule

module _ (old other new : State) (text : List ℕ) where
  is_told : (answer : Reply) → Step old (Merge other) answer new → text ≡ reply_text false new.graph answer → IsDone old other new text ⊎ IsRefused old new text
  is_told reply.Done step told = absurd step
  is_told (reply.Pushed id) step told = absurd step
  is_told reply.NoWorld step told = absurd step
  is_told (reply.Merged remap) step told = inl (record { says = ap letter told; accepted = step.accepted; graph = step.graph; rule = step.rule })
  is_told (reply.Refused error) step told = inr (record { says = ap letter told; graph = step.graph; rule = step.rule })

  rule_stays : IsDone old other new text ⊎ IsRefused old new text → new.track_rule ≡ old.track_rule
  rule_stays told = elim told [ inl is ↦ is.rule | inr is ↦ is.rule ]

-- what is answered to `merge`, and what the first graph is then
merge-is : (old other : State) (last : Stage) (text : List ℕ) → Answers (both old other) request.Merge text last
    → (new : State) × (IsDone old other new text ⊎ IsRefused old new text) × (last ≡ only_first new)
merge-is old other last text answer = by answer.0 answer.1 answer.2 where
  by : (said : Option Reply) → CarriesOut (both old other) request.Merge said last → IsAnswer (working_state last).graph request.Merge said text
      → (new : State) × (IsDone old other new text ⊎ IsRefused old new text) × (last ≡ only_first new)
  by None carried told = absurd carried
  by (Some said) carried told =
      let step = subst (λ (s : State). Step old (Merge s) said carried.1) (sym (same-some other carried.0 carried.2)) carried.3 in
      (carried.1, is_told old other carried.1 text said step (told ∙ ap (λ (s : Stage). reply_text false (working_state s).graph said) carried.4), carried.4)

-- it is answered only where a second graph is there
second-there : (before last : Stage) (text : List ℕ) → Answers before request.Merge text last → before.second ≡ None → ⊥
second-there before last text answer none = by answer.0 answer.1 where
  by : (said : Option Reply) → CarriesOut before request.Merge said last → ⊥
  by None carried = absurd carried
  by (Some said) carried = let clash : Some carried.0 ≡ None = sym carried.2 ∙ none in cc

-- what is answered to `other`
open-is : (before last : Stage) (text : List ℕ) → Answers before request.Other text last → (text ≡ []) × (before.second ≡ None) × (last ≡ record before { second = Some new_state })
open-is before last text answer = by answer.0 answer.1 answer.2 where
  by : (said : Option Reply) → CarriesOut before request.Other said last → IsAnswer (working_state last).graph request.Other said text
      → (text ≡ []) × (before.second ≡ None) × (last ≡ record before { second = Some new_state })
  by None carried told = (told, carried.0, carried.1)
  by (Some said) carried told = absurd carried

-- a text of another letter is none
no_letter : (n : ℕ) {old other new : State} {text : List ℕ} → letter text ≡ n → (n ≡ 109 → ⊥) → (n ≡ 114 → ⊥) → IsDone old other new text ⊎ IsRefused old new text → ⊥
no_letter n is not_m not_r (inl done) = not_m (sym is ∙ done.says)
no_letter n is not_m not_r (inr refused) = not_r (sym is ∙ refused.says)

-- ---- which graphs are there

abbrev has_second : Stage → Bool
has_second s = is_some s.second

abbrev second_graph : Stage → State
second_graph s = unwrap_or s.second new_state

pub others : ExamplesOfOtherLines
others = record {
  opened = (None, (refl, refl), refl);
  not_alone = λ answer. let is = open-is (only_first bar) (only_first bar) [] answer in false≢true (ap has_second is.2);
  not_the_same = λ answer.
      let is = open-is (only_first bar) (both bar bar) [] answer in
      let count : 1 ≡ 0 = ap (λ (s : Stage). packages_in (second_graph s)) is.2 in absurd (omega (arith, count));
  not_its_features = λ answer.
      let is = open-is (only_first bar) (both bar (record new_state { features = bar.features })) [] answer in
      let count : 1 ≡ 0 = ap (λ (s : Stage). length (second_graph s).features.names) is.2 in absurd (omega (arith, count));
  not_left_empty = λ answer.
      let is = open-is (only_first bar) (both new_state new_state) [] answer in
      let count : 0 ≡ 1 = ap (λ (s : Stage). packages_in s.first) is.2 in absurd (omega (arith, count));
  not_aloud = λ answer.
      let is = open-is (only_first bar) (both bar new_state) (codes "done\n") answer in
      let apart : 100 ≡ 0 = ap letter is.0 in absurd (omega (arith, apart));
  not_twice = λ text last answer. let is = open-is (both bar new_state) last text answer in let clash : Some new_state ≡ None = is.1 in cc;
}

pub merge_lines : ExamplesOfMergeLines
unfolding digits
merge_lines = record {
  merged = (
    Some (reply.Merged (at (1 ∷ []))),
    (baz, after (two foo_bar foo_baz), refl, one-step bar (Merge baz) (reply.Merged (at (1 ∷ []))) (after (two foo_bar foo_baz)) merges_are.package_comes, refl),
    refl,
  );
  not_open = λ answer. let is = merge-is bar baz (both (after (two foo_bar foo_baz)) baz) (codes "merged\n") answer in false≢true (sym (ap has_second is.2));
  not_opened_anew = λ answer. let is = merge-is bar baz (both (after (two foo_bar foo_baz)) new_state) (codes "merged\n") answer in false≢true (sym (ap has_second is.2));
  not_dropped = λ answer.
      let is = merge-is bar baz (only_first bar) (codes "merged\n") answer in
      elim is.1 [
        | inl done ↦ let count : 1 ≡ 2 = ap (λ (s : Stage). packages_in s.first) is.2 ∙ ap (λ (g : Graph). length g.packages) done.graph in absurd (omega (arith, count))
        | inr refused ↦ let apart = refused.says in absurd (omega (arith, apart))
      ];
  not_quiet = λ answer.
      let is = merge-is bar baz (only_first (after (two foo_bar foo_baz))) [] answer in
      no_letter 0 refl (λ same. absurd (omega (arith, same))) (λ same. absurd (omega (arith, same))) is.1;
  not_done = λ answer.
      let is = merge-is bar baz (only_first (after (two foo_bar foo_baz))) (codes "done\n") answer in
      no_letter 100 refl (λ same. absurd (omega (arith, same))) (λ same. absurd (omega (arith, same))) is.1;
  no_second = λ text last answer. second-there (only_first bar) last text answer refl;
  refused = (
    Some (gates_differ (codes "g") (codes "f")),
    (under_g, after (gated (codes "f")), refl, one-step under_f (Merge under_g) (gates_differ (codes "g") (codes "f")) (after (gated (codes "f"))) refused_are.apart, refl),
    refl,
  );
  refused_not_open = λ answer. let is = merge-is under_f under_g (both (after (gated (codes "f"))) under_g) gates_told answer in false≢true (sym (ap has_second is.2));
  refused_not_before = λ answer. let is = merge-is under_f under_g (both under_f under_g) gates_told answer in false≢true (sym (ap has_second is.2));
  refused_not_changed = λ answer.
      let is = merge-is under_f under_g (only_first (after (gated (codes "g")))) gates_told answer in
      elim is.1 [
        | inl done ↦ let apart : 114 ≡ 109 = done.says in absurd (omega (arith, apart))
        | inr refused ↦ g_not_f (ap (λ (s : Stage). gate_in s.first.graph) is.2 ∙ ap gate_in refused.graph)
      ];
  refused_not_merged = λ last answer.
      let is = merge-is under_f under_g last (codes "merged\n") answer in
      elim is.1 [
        | inl done ↦ done.accepted _ (gates_apart (codes "f") (codes "g") 10 gates_f_g)
        | inr refused ↦ let apart : 109 ≡ 114 = refused.says in absurd (omega (arith, apart))
      ];
  memory = (
    Some (reply.Refused OutOfMemory),
    (
      baz,
      bar,
      refl,
      record { cause = inl refl; past_end = λ past. inl refl; graph = refl; features = refl; rule = refl; files = inl refl },
      refl,
    ),
    refl,
  );
  memory_not_open = λ answer. let is = merge-is bar baz (both bar baz) (codes "refused 28 out of memory\n") answer in false≢true (sym (ap has_second is.2));
  lines = (
    both bar new_state,
    [],
    codes "merged\n",
    (None, (refl, refl), refl),
    (
      both bar with_rule,
      [],
      codes "merged\n",
      (Some reply.Done, (with_rule, refl, refl), refl),
      (
        only_first bar,
        codes "merged\n",
        [],
        (
          Some (reply.Merged (at [])),
          (
            with_rule,
            bar,
            refl,
            record { fits = lit< tt; accepted = packages_merge _ _ _ _ _ refl; graph = refl; features = refl; rule = refl; files = refl; remap_is = refl },
            refl,
          ),
          refl,
        ),
        (refl, refl),
        refl,
      ),
      refl,
    ),
    refl,
  );
  lines_not_set = λ all.
      let opened = open-is (only_first bar) all.0 all.1 all.3 in
      let set = change-is all.0 all.4.0 (change.SetTrackRule WithPrereleases) all.4.1 all.4.3 in
      let opens : all.4.0 ≡ both bar set.1 = set.3 ∙ ap (λ (s : Stage). with_working_state s set.1) opened.2 in
      let last : Answers (both bar set.1) request.Merge all.4.4.1 all.4.4.0 = subst (λ (s : Stage). Answers s request.Merge all.4.4.1 all.4.4.0) opens all.4.4.3 in
      let is = merge-is bar set.1 all.4.4.0 all.4.4.1 last in
      let same : true ≡ is_with_prereleases is.0.track_rule = ap (λ (s : Stage). is_other_rule s.first) (all.4.4.4.1 ∙ is.2) in
      false≢true (sym (same ∙ ap is_with_prereleases (rule_stays bar set.1 is.0 all.4.4.1 is.1)));
}
  where
    with_rule : State
    with_rule = record new_state { track_rule = WithPrereleases }
