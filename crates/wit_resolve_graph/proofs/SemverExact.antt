-- The law of the imports that semver merging leaves, at a state whose graph is valid.
use Rattle.std.proofs.Common.{sym, subst}
use Rattle.wit_elaboration.specs.Valid.{IsValid}
use Rattle.wit_graph_theory.specs.facts.ListFacts.{found_at, get_at}
use Rattle.wit_resolve_graph.specs.State.{State}
use Rattle.wit_resolve_graph.specs.facts.NamedWorlds.{world_within}
use Rattle.wit_semver.specs.laws.TrackLaws.{KeysAreExact, SemverMergedKeep}
use Rattle.wit_semver.specs.SemverMerged.{semver_merged}
use Rattle.wit_semver.specs.laws.Unchanged.{SameButLists}
use Rattle.wit_resolve_graph.specs.laws.SemverLaws.{CallIsExact, CommandIsExact, ImportsLessReplaced}

module _ (exact : KeysAreExact) (keep : SemverMergedKeep) (old : State) (valid : IsValid old.graph) where
  -- of a world that is there
  pub call_exact : CallIsExact old
  call_exact w within accepted =
      let before = get_at old.graph.worlds w within in
      let new = found_at (SameButLists before.0) (semver_merged old.track_rule old.graph w).worlds w ((keep old.track_rule old.graph w).worlds w before.0 before.1) in
      record {
        before = before.0;
        was = before.1;
        after = new.0;
        is = new.1;
        exact = λ j. exact old.track_rule old.graph w before.0 new.0 j (record { valid = valid; there = before.1; accepted = accepted; is = new.1 });
      }

  -- of the world that a command names
  pub command_exact : CommandIsExact old
  command_exact home name new step =
      let within = world_within old.graph valid home name step.w step.there in (
        step.w,
        step.there,
        subst (ImportsLessReplaced old step.w) (λ i. (sym step.is_changed i).graph) (call_exact step.w within step.accepted),
      )
