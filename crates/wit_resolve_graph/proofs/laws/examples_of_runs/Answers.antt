use Rattle.std.proofs.Common.{◌≡◌, ◌∙◌, Bool, true, false, refl, sym, ap, arith}
use Rattle.std.proofs.lemmas.Bool.{false≢true}
use Rattle.std.proofs.lemmas.Option.{none-some}
use Rattle.wit_sources.specs.SourceMap.{Sources}
use Rattle.wit_resolve_graph.proofs.laws.examples_of_runs.Goals as goal
use Rattle.wit_resolve_graph.specs.State.{State}
use Rattle.wit_names.specs.declared.track.TrackRule.{TrackRule}
use Rattle.wit_names.specs.declared.track.TrackRule.TheVariants.{Published, WithPrereleases}

-- is the rule not the published one?
abbrev is_with_prereleases : TrackRule → Bool
is_with_prereleases Published = false
is_with_prereleases WithPrereleases = true

abbrev is_other_rule : State → Bool
is_other_rule s = is_with_prereleases s.track_rule

pub returns : goal.returns
returns c = record {
  empty = refl;
  features = (_, refl, (_, refl, (_, refl, refl)));
  push_without_files = λ run. let end : 0 ≡ 10 = ap (λ (s : State). s.source_map.end) run.2 ∙ ap (λ (f : Sources). f.end) run.1.files in absurd (omega (arith, end));
  push_done = λ run. run.1;
  no_world = (_, (refl, refl), refl);
  no_turn = (_, (refl, refl), (_, (refl, refl), refl));
  not_merged = λ run. none-some run.1.w run.1.there;
  rule = (_, refl, refl);
  rule_not_left = λ run. false≢true (ap is_other_rule (run.2 ∙ run.1));
  rule_stays = λ run. false≢true (sym (ap is_other_rule (run.2 ∙ run.1)));
  turn_not_done = λ run. none-some run.1.w run.1.there;
  reply_missing = λ run. run;
  wrong_reply = λ run. run.1;
  not_done = λ run. false≢true (ap (λ (s : State). s.features.all) (run.2 ∙ run.1));
}
