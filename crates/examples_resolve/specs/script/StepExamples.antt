-- Steps that set the rule of tracks or merge the imports of a world by it, what a script answers to them, and what they
-- aren't.
use Rattle.std.specs.Prelude.{ℕ, List, [], ◌∷◌, ◌++◌, None, Some, codes}
use Rattle.wit_names.specs.declared.track.TrackRule.TheVariants.{WithPrereleases}
use Rattle.wit_graph_data.specs.declared.cause.Cause.TheVariants.{UpgradeMismatch}
use Rattle.wit_graph_data.specs.declared.error_kind.ResolveErrorKind.TheVariants.{Semantic}
use Rattle.wit_graph_data.specs.declared.graph.Graph.{Graph}
use Rattle.wit_commands.specs.declared.change.Change.TheVariants as change
use Rattle.wit_script_lines.specs.declared.request.Request.TheVariants as request
use Rattle.wit_resolve_graph.specs.State.{State, new_state}
use Rattle.wit_resolve_graph.specs.Step.{Run}
use Rattle.wit_resolve_graph.specs.declared.command.Command.{Command}
use Rattle.wit_resolve_graph.specs.declared.command.Command.TheVariants.{Semver, SetTrackRule}
use Rattle.wit_resolve_graph.specs.declared.command.Reply.{Reply}
use Rattle.wit_resolve_graph.specs.declared.command.Reply.TheVariants.{Done, NoWorld, Refused}
use Rattle.examples_resolve.specs.merge.CauseExamples.{failed, without_type}
use Rattle.examples_resolve.specs.merge.Releases.{foo_main}
use Rattle.examples_resolve.specs.merge.SemverMergeExamples.{first_release, of_three, three}
use Rattle.wit_script.specs.Answer.{Answers, only_first}
use Rattle.wit_script.specs.declared.answer.Stage.{Stage}
use Rattle.wit_script_lines.specs.declared.request.Request.{Request}

-- ---- states

-- a graph without features and sources, by the published rule of tracks, and by the other
abbrev pub published : Graph → State
published g = record new_state { graph = g }

abbrev pub by_prereleases : Graph → State
by_prereleases g = record (published g) { track_rule = WithPrereleases }

-- the imports of world w of foo:main are merged
abbrev pub semver : List ℕ → Command
semver world = Semver foo_main world

-- one step of a graph by the published rule
abbrev pub MayStep : Graph → Command → Reply → State → Type 0
MayStep g command reply new = Run (published g) (command ∷ []) (reply ∷ []) new

pub record ExamplesOfSteps : Type 0 where
  -- 0.2.1 stands for 0.2.0, and y uses it
  pub merged : MayStep of_three (semver (codes "w")) Done (published (three 1 (1 ∷ 3 ∷ 2 ∷ [])))
  -- not: nothing changed, the rule changed, no world, refused for a type
  pub not_kept : MayStep of_three (semver (codes "w")) Done (published of_three) → ⊥
  pub rule_kept : MayStep of_three (semver (codes "w")) Done
      (by_prereleases (three 1 (1 ∷ 3 ∷ 2 ∷ []))) → ⊥
  pub not_absent : (new : State) → MayStep of_three (semver (codes "w")) NoWorld new → ⊥
  pub not_refused : (message : List ℕ) (new : State)
      → MayStep of_three (semver (codes "w")) (Refused (Semantic None message UpgradeMismatch)) new
      → ⊥
  -- there is no world v
  pub absent : MayStep of_three (semver (codes "v")) NoWorld (published of_three)
  pub not_there : (new : State) → MayStep of_three (semver (codes "v")) Done new → ⊥
  -- x@0.2.1 lacks a type that y uses: nothing changes, and nothing else is answered
  pub missing : MayStep without_type (semver (codes "w"))
      (Refused (failed (codes "type `t` is missing"))) (published without_type)
  pub not_done : (new : State) → MayStep without_type (semver (codes "w")) Done new → ⊥
  -- a pre-release stands on the track of its release after that rule is set, and not before
  pub by_rule : Run (published (first_release (0 ∷ 1 ∷ [])))
      (SetTrackRule WithPrereleases ∷ semver (codes "w") ∷ []) (Done ∷ Done ∷ [])
      (by_prereleases (first_release (1 ∷ [])))
  pub before : MayStep (first_release (0 ∷ 1 ∷ [])) (semver (codes "w")) Done
      (published (first_release (0 ∷ 1 ∷ [])))
  pub not_ignored : Run (by_prereleases (first_release (0 ∷ 1 ∷ []))) (semver (codes "w") ∷ [])
      (Done ∷ []) (by_prereleases (first_release (0 ∷ 1 ∷ []))) → ⊥

-- ---- what a script answers

-- the lines `semver foo:main w` and `tracks with-prereleases`
abbrev pub semver_line : Request
semver_line = request.Change (change.Semver foo_main (codes "w"))

abbrev pub tracks_line : Request
tracks_line = request.Change (change.SetTrackRule WithPrereleases)

-- a command may be answered so
abbrev pub IsAnswered : Stage → Request → List ℕ → Stage → Type 0
IsAnswered before command text after = Answers before command text after

-- a graph and a second one that is open
abbrev pub both : State → State → Stage
both first second = record { first = first; second = Some second }

pub record ExamplesOfAnswers : Type 0 where
  pub merged : IsAnswered (only_first (published of_three)) semver_line (codes "done\n")
      (only_first (published (three 1 (1 ∷ 3 ∷ 2 ∷ []))))
  pub missing : IsAnswered (only_first (published without_type)) semver_line
      (codes "refused 25 failed to upgrade `foo:x/x@0.2.0` to `foo:x/x@0.2.1`, was this "
      ++ codes "semver-compatible update not semver compatible?: type `t` is missing\n")
      (only_first (published without_type))
  pub absent : IsAnswered (only_first new_state) semver_line (codes "no world\n")
      (only_first new_state)
  pub tracks : IsAnswered (only_first new_state) tracks_line []
      (only_first (by_prereleases new_state.graph))
  -- between `other` and `merge` the rule is that of the second graph
  pub tracks_of_second : IsAnswered (both new_state new_state) tracks_line []
      (both new_state (by_prereleases new_state.graph))
  pub not_of_first : IsAnswered (both new_state new_state) tracks_line []
      (both (by_prereleases new_state.graph) new_state) → ⊥
  -- and it is told by nothing
  pub not_aloud : IsAnswered (only_first new_state) tracks_line (codes "done\n")
      (only_first (by_prereleases new_state.graph)) → ⊥
