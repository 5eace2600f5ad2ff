-- What comes out of a document.
use Rattle.std.specs.Prelude.{◌≡◌, ◌⊎◌, ℕ, Bool, true, false, List, Option, Some, None, Ok, Err, IsUtf8}
use Rattle.wit_elaboration.specs.Valid.{IsValid}
use Rattle.wit_graph_faults.specs.Faults.{IsGraphFault}
use Rattle.wit_graph_faults.specs.declared.fault.GraphFault.{GraphFault}
use Rattle.wit_resolve_graph.specs.State.{State, new_state}
use Rattle.wit_json.specs.Graph.{compact}
use Rattle.wit_json_graphs.specs.declared.resolves.ResolveParts.{ResolveParts}
use Rattle.wit_json_reading.specs.Documents.{read_from}
use Rattle.wit_json_reading.specs.Places.{IsPlaceOf}
use Rattle.wit_json_reading.specs.declared.fault.Fault.{Fault}
use Rattle.wit_json_reading.specs.declared.places.FaultPlace.{FaultPlace}
use Rattle.wit_json_commands.specs.GraphFaults.{invalid_fault}
use Rattle.wit_json_commands.specs.Orders.{read_document}
use Rattle.wit_json_commands.specs.declared.commands.orders.Document.{Document}
use Rattle.wit_json_commands.specs.Output.{json_of_fault, json_of_output}
use Rattle.wit_json_commands.specs.declared.replies.answers.Response.{Response}
use Rattle.wit_json_commands.specs.Runs.{RespondsEach}

-- ---- what a document begins with

-- an empty graph, or the one that the document has, with what stands beside it
abbrev pub first_state : Option ResolveParts → State
first_state None = new_state
first_state (Some parts) =
    record {
      graph = parts.graph;
      features = parts.features;
      source_map = parts.source_map;
      track_rule = parts.track_rule;
    }

-- it is valid; the empty graph is
abbrev pub BeginsValid : Option ResolveParts → Type 0
BeginsValid None = Unit {0}
BeginsValid (Some parts) = IsValid parts.graph

-- ---- what comes out

-- the commands are carried out; out come the replies, and the graph with what stands beside it
pub record Outputs (document : Document) (text : List ℕ) : Type 0 where
  pub replies : List Response
  pub state : State
  pub responds : RespondsEach (first_state document.resolve) document.commands replies state
  pub text_is : text
      ≡ compact
      (json_of_output replies state.graph state.features state.track_rule state.source_map)

-- a document is read, begins with a valid graph, and this comes out
pub record Understands (input text : List ℕ) : Type 0 where
  pub document : Document
  pub reads : read_from read_document input ≡ Ok document
  pub valid : BeginsValid document.resolve
  pub outputs : Outputs document text

-- why it isn't, of one that isn't
abbrev pub TellsInvalid : Option ResolveParts → Fault → Type 0
TellsInvalid None fault = ⊥
TellsInvalid (Some parts) fault =
    (why : GraphFault) × (IsGraphFault parts.graph why × (fault ≡ invalid_fault why))

-- a document begins with a graph that isn't valid
pub record BeginsInvalid (input : List ℕ) (fault : Fault) : Type 0 where
  pub document : Document
  pub reads : read_from read_document input ≡ Ok document
  pub tells : TellsInvalid document.resolve fault

-- the first fault of a document that can't be read, or that of one which begins with a graph that isn't valid
abbrev pub IsFaultOf : List ℕ → Fault → Type 0
IsFaultOf input fault = (read_from read_document input ≡ Err fault) ⊎ BeginsInvalid input fault

-- a fault comes out, with its place in the document
pub record TellsPlace (input : List ℕ) (fault : Fault) (text : List ℕ) : Type 0 where
  pub place : FaultPlace
  pub is_placed : IsPlaceOf input fault place
  pub text_is : text ≡ compact (json_of_fault fault place)

-- the fault of the document comes out
pub record TellsFault (input text : List ℕ) : Type 0 where
  pub fault : Fault
  pub is_fault : IsFaultOf input fault
  pub tells : TellsPlace input fault text

-- what comes out, and whether the document is understood
abbrev pub ComesOut : List ℕ → Bool → List ℕ → Type 0
ComesOut input true text = Understands input text
ComesOut input false text = TellsFault input text

-- the same of an input that is text
abbrev pub ComesOutOfBytes : List ℕ → Bool → List ℕ → Type 0
ComesOutOfBytes input understood text = IsUtf8 input × ComesOut input understood text
