-- What is done with changes, and what a document begins with.
use Rattle.std.specs.Prelude.{◌≡◌, ◌≢◌, [], ◌∷◌, true, Some, None, codes}
use Rattle.wit_names.specs.declared.track.TrackRule.TheVariants.{Published, WithPrereleases}
use Rattle.wit_resolve_graph.specs.State.{State, new_state}
use Rattle.wit_resolve_graph.specs.declared.command.Command.TheVariants as command
use Rattle.wit_resolve_graph.specs.declared.command.Reply.TheVariants as reply
use Rattle.wit_commands.specs.Change.{change_text}
use Rattle.wit_commands.specs.declared.change.Change.TheVariants as change
use Rattle.wit_json_commands.specs.declared.commands.orders.Order.TheVariants as order
use Rattle.wit_json_commands.specs.declared.commands.orders.Request.TheVariants as request
use Rattle.wit_json_graphs.specs.declared.resolves.ResolveParts.{ResolveParts}
use Rattle.wit_json_commands.specs.declared.replies.answers.Answer.TheVariants as answer
use Rattle.wit_json_commands.specs.declared.replies.answers.Response.TheVariants as response
use Rattle.wit_ways.specs.declared.asked.Asked.TheVariants as asks
use Rattle.wit_json_commands.specs.Documents.{first_state}
use Rattle.wit_resolve_graph.specs.Step.{command_of}
use Rattle.wit_json_commands.specs.Runs.{AnswersReply, RespondsEach}
use Rattle.wit_json_commands.specs.Targets.{target_of}
use Rattle.wit_json_commands.specs.declared.runs.targets.Target.TheVariants as target
use Rattle.examples_json.specs.runs.Questions.{asked_graph, foo_bar, not_there}

-- an empty graph with a feature on, and the other rule of tracks
abbrev pub begun : ResolveParts
begun =
    record {
      graph = new_state.graph;
      features = record { names = codes "f" ∷ []; all = true };
      source_map = new_state.source_map;
      track_rule = WithPrereleases;
    }

-- the empty graph with a feature on
abbrev pub with_f : State
with_f = record new_state { features = record new_state.features { names = codes "f" ∷ [] } }

pub record ExamplesOfChanges : Type 0 where
  -- the command that a change is
  pub importized : command_of (change.Importize foo_bar (codes "w") None)
      ≡ command.Importize foo_bar (codes "w") None
  pub not_exportized : command_of (change.Importize foo_bar (codes "w") None)
      ≢ command.Exportize foo_bar (codes "w") None None
  -- what was asked, in words
  pub asked : change_text (change.Exportize foo_bar (codes "w") None None)
      ≡ codes "exportize foo:bar w"
  pub not_turned : change_text (change.Importize foo_bar (codes "w") None)
      ≢ codes "exportize foo:bar w"
  -- the answer that a reply is
  pub done : AnswersReply new_state (codes "add-feature f") target.Graph asks.Other reply.Done
      answer.Done
  pub changed : AnswersReply new_state (codes "semver a:b w") (target.World 3 []) asks.Other
      reply.Done (answer.ChangedWorld 3 [])
  pub pushed : AnswersReply new_state (codes "push-groups a:b") target.Graph asks.Other
      (reply.Pushed 2) (answer.Pushed 2)
  pub no_world : AnswersReply new_state (codes "semver a:b w") target.NoWorld asks.Other
      reply.NoWorld answer.Done → ⊥
  pub no_package : AnswersReply new_state (codes "semver a:b w") target.NoPackage asks.Other
      reply.NoWorld answer.NoPackage
  -- what names lead to: a world with the keys that none of its imports has, each as often as it is listed
  pub unmatched : target_of asked_graph
      (command.Exportize foo_bar (codes "w") None
      (Some (codes "foo:bar/c" ∷ codes "foo:bar/b" ∷ codes "run" ∷ codes "foo:bar/c" ∷ [])))
      ≡ target.World 0 (codes "foo:bar/c" ∷ codes "run" ∷ codes "foo:bar/c" ∷ [])
  pub all_matched : target_of asked_graph
      (command.Exportize foo_bar (codes "w") None (Some (codes "foo:x/a@0.2.1" ∷ [])))
      ≡ target.World 0 []
  pub without_keys : target_of asked_graph (command.Exportize foo_bar (codes "w") None None)
      ≡ target.World 0 []
  pub of_semver : target_of asked_graph (command.Semver foo_bar (codes "w")) ≡ target.World 0 []
  pub absent : target_of asked_graph (command.Importize foo_bar (codes "v") None) ≡ target.NoWorld
  pub homeless : target_of asked_graph (command.Semver not_there (codes "w")) ≡ target.NoPackage
  pub nameless : target_of asked_graph (command.AddFeature (codes "f")) ≡ target.Graph
  -- what a document begins with
  pub empty : first_state None ≡ new_state
  pub given : (first_state (Some begun)).features.all ≡ true
  pub its_rule : (first_state (Some begun)).track_rule ≡ WithPrereleases
  pub not_published : (first_state (Some begun)).track_rule ≢ Published
  -- one answer to each command, in order; a question changes nothing
  pub two : RespondsEach new_state (order.Request (request.Change (change.AddFeature (codes "f")))
      ∷ order.Request (request.Change (change.SetTrackRule Published)) ∷ [])
      (response.Answer answer.Done ∷ response.Answer answer.Done ∷ []) with_f
  pub not_one : RespondsEach new_state
      (order.Request (request.Change (change.AddFeature (codes "f")))
      ∷ order.Request (request.Change (change.SetTrackRule Published)) ∷ [])
      (response.Answer answer.Done ∷ []) with_f → ⊥
  pub nothing : RespondsEach new_state [] [] new_state
  pub not_changed : RespondsEach new_state [] [] with_f → ⊥
