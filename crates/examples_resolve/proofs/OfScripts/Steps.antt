-- Steps of worked graphs, and the worlds that they name.
use Rattle.std.proofs.Common.{◌≡◌, ◌∙◌, inl, inr, ℕ, Bool, true, false, List, [], ◌∷◌, Option, None, Some, codes, slice_index_or, refl, sym, ap, subst}
use Rattle.std.proofs.lemmas.Bool.{false≢true}
use Rattle.std.proofs.lemmas.Option.{none-some, same_Some}
use Rattle.std.specs.Fmt.{digits}
use Rattle.wit_names.specs.declared.track.TrackRule.{TrackRule}
use Rattle.wit_names.specs.declared.track.TrackRule.TheVariants.{Published, WithPrereleases}
use Rattle.wit_graph_data.specs.declared.cause.Cause.TheVariants.{UpgradeMismatch}
use Rattle.wit_graph_data.specs.declared.error_kind.ResolveErrorKind.TheVariants.{Semantic}
use Rattle.wit_graph_data.specs.declared.graph.Graph.{Graph}
use Rattle.wit_graph_data.specs.Named.{world_named}
use Rattle.wit_resolve_graph.specs.State.{State, new_state}
use Rattle.wit_resolve_graph.specs.Step.{Run, Step, command_of}
use Rattle.wit_resolve_graph.specs.declared.command.Command.{Command}
use Rattle.wit_resolve_graph.specs.declared.command.Reply.{Reply}
use Rattle.wit_resolve_graph.specs.declared.command.Reply.TheVariants as reply
use Rattle.wit_resolve_graph.specs.declared.command.Command.TheVariants.{SetTrackRule}
use Rattle.wit_semver.specs.SemverMerged.{semver_merged, IsSemverMergeCause}
use Rattle.examples_resolve.specs.merge.CauseExamples.{ExamplesOfCauses, failed, without_type}
use Rattle.examples_resolve.specs.merge.Releases.{foo_main}
use Rattle.examples_resolve.specs.merge.SemverMergeExamples.{ExamplesOfSemverMerges, ExamplesOfRules, first_release, of_three, three}
use Rattle.wit_commands.specs.Change.{is_setting}
use Rattle.wit_commands.specs.declared.change.Change.{Change}
use Rattle.wit_commands.specs.declared.change.Change.TheVariants as change
use Rattle.wit_script_lines.specs.declared.request.Request.TheVariants as request
use Rattle.wit_script.specs.Answer.{Answers, CarriesOut, IsAnswer, only_first, reply_text, with_working_state, working_state}
use Rattle.wit_script.specs.declared.answer.Stage.{Stage}
use Rattle.examples_resolve.specs.script.StepExamples.{ExamplesOfAnswers, ExamplesOfSteps, both, by_prereleases, published, semver}

-- ---- the worlds of foo:main

abbrev pub letter : List ℕ → ℕ
letter text = slice_index_or text 0 0

abbrev releases : Graph
releases = first_release (0 ∷ 1 ∷ [])

-- world w of each
w_of_three : world_named of_three foo_main (codes "w") ≡ Some 0
w_of_three = refl

w_without_type : world_named without_type foo_main (codes "w") ≡ Some 0
w_without_type = refl

w_of_releases : world_named releases foo_main (codes "w") ≡ Some 0
w_of_releases = refl

-- and no world v
no_v : world_named of_three foo_main (codes "v") ≡ None
no_v = refl

only : (o : Option ℕ) (w : ℕ) → o ≡ Some 0 → o ≡ Some w → 0 ≡ w
only o w first second = same_Some 0 w (sym first ∙ second)

-- ---- the rule of tracks of a state

abbrev pub is_with_prereleases : TrackRule → Bool
is_with_prereleases Published = false
is_with_prereleases WithPrereleases = true

abbrev pub is_other_rule : State → Bool
is_other_rule s = is_with_prereleases s.track_rule

-- the graph after one step
graph_of_step : (mid new : State) (f : ℕ → Graph) (w : ℕ) → 0 ≡ w → mid.graph ≡ f w → new ≡ mid → f 0 ≡ new.graph
graph_of_step mid new f w zero is same = ap f zero ∙ sym is ∙ sym (ap (λ (s : State). s.graph) same)

-- a run of one command is its step
pub one-step : (old : State) (command : Command) (answer : Reply) (new : State) → Run old (command ∷ []) (answer ∷ []) new → Step old command answer new
one-step old command answer new run = subst (λ (s : State). Step old command answer s) (sym run.2) run.1

-- what is answered to a change
pub change-is : (before after : Stage) (made : Change) (text : List ℕ) → Answers before (request.Change made) text after
    → (answer : Reply) × (new : State) × Step (working_state before) (command_of made) answer new × (after ≡ with_working_state before new) × (text ≡ reply_text (is_setting made) (working_state after).graph answer)
change-is before after made text answer = at answer.0 answer.1 answer.2 where
  at : (said : Option Reply) → CarriesOut before (request.Change made) said after → IsAnswer (working_state after).graph (request.Change made) said text
      → (answer : Reply) × (new : State) × Step (working_state before) (command_of made) answer new × (after ≡ with_working_state before new) × (text ≡ reply_text (is_setting made) (working_state after).graph answer)
  at None carried told = absurd carried
  at (Some said) carried told = (said, carried.0, carried.1, carried.2, told)

module _ (semver_merges : ExamplesOfSemverMerges) (rules : ExamplesOfRules) (causes : ExamplesOfCauses) where
  pub steps : ExamplesOfSteps
  steps = record {
    merged = (published (three 1 (1 ∷ 3 ∷ 2 ∷ [])), record { w = 0; there = w_of_three; accepted = causes.not_missing; is_changed = ap published (sym semver_merges.merged) }, refl);
    not_kept = λ run.
        semver_merges.not_kept
        (graph_of_step run.0 (published of_three) (semver_merged Published of_three) run.1.w (only _ run.1.w w_of_three run.1.there) (ap (λ (s : State). s.graph) run.1.is_changed) run.2);
    rule_kept = λ run. false≢true (sym (ap is_other_rule (run.2 ∙ run.1.is_changed)));
    not_absent = λ new run. none-some 0 (sym run.1.0 ∙ w_of_three);
    not_refused = λ message new run.
        elim run.1.cause [
          | inl memory ↦ cc
          | inr told ↦ causes.not_missing (Semantic None message UpgradeMismatch) (subst (λ (w : ℕ). IsSemverMergeCause Published of_three w (Semantic None message UpgradeMismatch)) (sym (only _ run.1.w w_of_three run.1.there)) told)
        ];
    absent = (published of_three, (no_v, refl), refl);
    not_there = λ new run. none-some run.1.w (sym no_v ∙ run.1.there);
    missing = (published without_type, record { w = 0; there = w_without_type; cause = inr causes.missing; same = refl }, refl);
    not_done = λ new run.
        run.1.accepted (failed (codes "type `t` is missing"))
        (subst (λ (w : ℕ). IsSemverMergeCause Published without_type w (failed (codes "type `t` is missing"))) (only _ run.1.w w_without_type run.1.there) causes.missing);
    by_rule = (
      by_prereleases releases,
      refl,
      (by_prereleases (first_release (1 ∷ [])), record { w = 0; there = w_of_releases; accepted = causes.accepted_together; is_changed = ap by_prereleases (sym rules.together) }, refl),
    );
    before = (published releases, record { w = 0; there = w_of_releases; accepted = causes.accepted_apart; is_changed = ap published (sym rules.apart) }, refl);
    not_ignored = λ run.
        rules.not_ignored
        (graph_of_step run.0 (by_prereleases releases) (semver_merged WithPrereleases releases) run.1.w (only _ run.1.w w_of_releases run.1.there)
        (ap (λ (s : State). s.graph) run.1.is_changed) run.2
        ∙ sym rules.apart);
  }

  -- ---- answers

  abbrev first_rule : Stage → Bool
  first_rule s = is_other_rule s.first

  -- the rule is set without a word
  quiet : (g : Graph) (answer : Reply) (new : State) → Step new_state (SetTrackRule WithPrereleases) answer new → reply_text true g answer ≡ []
  quiet g reply.Done new step = refl
  quiet g (reply.Pushed id) new step = absurd step
  quiet g (reply.Merged remap) new step = absurd step
  quiet g reply.NoWorld new step = absurd step
  quiet g (reply.Refused error) new step = absurd step

  pub answers : ExamplesOfAnswers
  unfolding digits
  answers = record {
    merged = (
      Some reply.Done,
      (
        published (three 1 (1 ∷ 3 ∷ 2 ∷ [])),
        one-step (published of_three) (semver (codes "w")) reply.Done (published (three 1 (1 ∷ 3 ∷ 2 ∷ []))) steps.merged,
        refl,
      ),
      refl,
    );
    missing = (
      Some (reply.Refused (failed (codes "type `t` is missing"))),
      (
        published without_type,
        one-step (published without_type) (semver (codes "w")) (reply.Refused (failed (codes "type `t` is missing"))) (published without_type) steps.missing,
        refl,
      ),
      refl,
    );
    absent = (Some reply.NoWorld, (new_state, (refl, refl), refl), refl);
    tracks = (Some reply.Done, (by_prereleases new_state.graph, refl, refl), refl);
    tracks_of_second = (Some reply.Done, (by_prereleases new_state.graph, refl, refl), refl);
    not_of_first = λ answer.
        let is = change-is (both new_state new_state) (both (by_prereleases new_state.graph) new_state) (change.SetTrackRule WithPrereleases) [] answer in
        false≢true (sym (ap first_rule is.3));
    not_aloud = λ answer.
        let is = change-is (only_first new_state) (only_first (by_prereleases new_state.graph)) (change.SetTrackRule WithPrereleases) (codes "done\n") answer in
        let none : codes "done\n" ≡ [] = is.4 ∙ quiet (by_prereleases new_state.graph).graph is.0 is.1 is.2 in cc;
  }
