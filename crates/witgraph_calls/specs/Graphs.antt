-- What calls do to a graph that stays.
use Rattle.std.specs.Prelude.{◌≡◌, ℕ, List, Option, Some, None, Ok, codes}
use Rattle.json.specs.Json.{Json}
use Rattle.wit_json.specs.Graph.{compact}
use Rattle.wit_json.specs.Values.{list_of, member, object}
use Rattle.wit_json.specs.Whole.{json_of_whole}
use Rattle.wit_json_graphs.specs.declared.resolves.ResolveParts.{ResolveParts}
use Rattle.wit_json_reading.specs.Documents.{read_from}
use Rattle.wit_json_commands.specs.Answers.{json_of_response}
use Rattle.wit_json_commands.specs.Documents.{BeginsValid, first_state}
use Rattle.wit_json_commands.specs.Orders.{read_document}
use Rattle.wit_json_commands.specs.Runs.{RespondsEach}
use Rattle.wit_json_commands.specs.declared.commands.orders.Document.{Document}
use Rattle.wit_json_commands.specs.declared.commands.orders.Order.{Order}
use Rattle.wit_json_commands.specs.declared.replies.answers.Response.{Response}
use Rattle.wit_resolve_graph.specs.State.{State}

-- ---- commands

-- commands are carried out on a graph, which becomes another one, and their replies in order are this text
pub record Replies (old : State) (commands : List Order) (new : State) (text : List ℕ)
    : Type 0 where
  pub replies : List Response
  pub responds : RespondsEach old commands replies new
  pub text_is : text
      ≡ compact (object (member (codes "replies") (list_of json_of_response replies)))

-- ---- documents

-- where the commands of a document begin: at the graph that stays, or at the document's own, which takes its place
abbrev pub start_for : State → Option ResolveParts → State
start_for old None = old
start_for old (Some parts) = first_state (Some parts)

-- a document is read, its own graph is valid if it has one, and its commands are carried out
pub record Applies (old : State) (input : List ℕ) (new : State) (text : List ℕ)
    : Type 0 where
  pub document : Document
  pub reads : read_from read_document input ≡ Ok document
  pub valid : BeginsValid document.resolve
  pub replied : Replies (start_for old document.resolve) document.commands new text

-- ---- the graph itself

-- a graph with what stands beside it, as a later document may begin with it
abbrev pub text_of_state : State → List ℕ
text_of_state state =
    compact (json_of_whole state.graph state.features state.track_rule state.source_map)
