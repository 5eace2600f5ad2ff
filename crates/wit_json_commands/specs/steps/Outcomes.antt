-- What the steps from a text to an outcome tell.
use Rattle.std.specs.Prelude.{◌≡◌, ℕ, List, Option, Result, Ok, Err}
use Rattle.wit_resolve_graph.specs.State.{State}
use Rattle.wit_json.specs.Graph.{compact}
use Rattle.wit_json_graphs.specs.declared.resolves.ResolveParts.{ResolveParts}
use Rattle.wit_json_reading.specs.declared.fault.ReadError.{ReadError}
use Rattle.wit_json_reading.specs.declared.fault.ReadError.TheVariants as error
use Rattle.wit_json_commands.specs.declared.commands.orders.Order.{Order}
use Rattle.wit_json_commands.specs.Output.{json_of_output}
use Rattle.wit_json_commands.specs.declared.replies.answers.Response.{Response}
use Rattle.wit_json_commands.specs.Documents.{BeginsValid, IsFaultOf, TellsInvalid, first_state}
use Rattle.wit_json_commands.specs.Runs.{RespondsEach}

-- the state with which a document begins, or the fault of a graph that isn't valid
abbrev pub Begins : Option ResolveParts → Result State ReadError → Type 0
Begins parts (Ok state) = BeginsValid parts × (state ≡ first_state parts)
Begins parts (Err (error.Fault fault)) = TellsInvalid parts fault
Begins parts (Err error.OutOfMemory) = Unit {0}

-- why nothing is carried out; want of memory may always be answered
abbrev pub TellsFaultOf : List ℕ → ReadError → Type 0
TellsFaultOf input (error.Fault fault) = IsFaultOf input fault
TellsFaultOf input error.OutOfMemory = Unit {0}

-- commands are carried out, and this comes out
pub record WritesOutput (first : State) (commands : List Order) (text : List ℕ) : Type 0 where
  pub replies : List Response
  pub state : State
  pub responds : RespondsEach first commands replies state
  pub text_is : text
      ≡ compact
      (json_of_output replies state.graph state.features state.track_rule state.source_map)
