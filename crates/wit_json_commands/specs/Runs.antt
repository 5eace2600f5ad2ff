-- What a document's commands do, and what is answered to each.
use Rattle.std.specs.Prelude.{◌≡◌, ◌⊎◌, ℕ, List, [], ◌∷◌, codes}
use Rattle.wit_resolve_graph.specs.State.{State, new_state}
use Rattle.wit_resolve_graph.specs.Step.{Step, command_of}
use Rattle.wit_resolve_graph.specs.declared.command.Command.{Command}
use Rattle.wit_resolve_graph.specs.declared.command.Command.TheVariants as command
use Rattle.wit_resolve_graph.specs.declared.command.Reply.{Reply}
use Rattle.wit_resolve_graph.specs.declared.command.Reply.TheVariants as reply
use Rattle.wit_commands.specs.Change.{change_text}
use Rattle.wit_commands.specs.declared.change.Change.{Change}
use Rattle.wit_json_commands.specs.declared.commands.orders.Order.{Order}
use Rattle.wit_json_commands.specs.declared.commands.orders.Order.TheVariants as order
use Rattle.wit_json_commands.specs.declared.commands.orders.Request.{Request}
use Rattle.wit_json_commands.specs.declared.commands.orders.Request.TheVariants as request
use Rattle.wit_json_commands.specs.Tells.{AnswersQuestion}
use Rattle.wit_json_commands.specs.Refusals.{refused}
use Rattle.wit_json_commands.specs.Targets.{done_answer, missing_answer, target_of}
use Rattle.wit_json_commands.specs.declared.replies.answers.Answer.{Answer}
use Rattle.wit_json_commands.specs.declared.replies.answers.Answer.TheVariants as answer
use Rattle.wit_json_commands.specs.declared.replies.answers.Response.{Response}
use Rattle.wit_json_commands.specs.declared.replies.answers.Response.TheVariants as response
use Rattle.wit_json_commands.specs.declared.replies.unshaped.Unshaped.{Unshaped}
use Rattle.wit_json_commands.specs.declared.runs.targets.Target.{Target}
use Rattle.wit_ways.specs.Asked.{asked_of}
use Rattle.wit_ways.specs.Told.{IsTold}
use Rattle.wit_ways.specs.declared.arrow.Arrow.{Arrow}
use Rattle.wit_ways.specs.declared.asked.Asked.{Asked}
use Rattle.wit_json_commands.specs.Unshaped.{IsChangeShaped, IsUnshaped}

-- ---- commands

-- the answer that a reply is to what was asked of a graph, which in words is this and leads to this target: a refusal is
-- told with its way
abbrev pub AnswersReply : State → List ℕ → Target → Asked → Reply → Answer → Type 0
AnswersReply state asked target brought reply.Done told = told ≡ done_answer target
AnswersReply state asked target brought (reply.Pushed id) told = told ≡ answer.Pushed id
AnswersReply state asked target brought (reply.Merged remap) told = told ≡ answer.Merged remap
AnswersReply state asked target brought reply.NoWorld told = told ≡ missing_answer target
AnswersReply state asked target brought (reply.Refused error) told =
    (way : List Arrow) × IsTold state brought error way
    × (told ≡ refused state.graph state.source_map asked way error)

-- a command is carried out, which in words is this, and its reply is answered
pub record CarriesOutCommand (asked : List ℕ) (old : State) (it : Command) (told : Answer)
    (new : State) : Type 0 where
  pub reply : Reply
  pub step : Step old it reply new
  pub answers : AnswersReply new asked (target_of old.graph it) (asked_of old it) reply told

-- ---- changes

-- of a change whose groups lack their shape the first package is told that lacks it, with what it lacks, and nothing has
-- changed
pub record TellsShape (old : State) (it : Change) (told : Answer) (new : State) : Type 0 where
  pub lacks : IsChangeShaped it → ⊥
  pub unshaped : Unshaped
  pub is_first : IsUnshaped it unshaped
  pub told_is : told ≡ answer.NotShaped unshaped
  pub same : new ≡ old

-- another change is carried out
abbrev pub CarriesOut : State → Change → Answer → State → Type 0
CarriesOut old it told new =
    (IsChangeShaped it × CarriesOutCommand (change_text it) old (command_of it) told new)
    ⊎ TellsShape old it told new

-- ---- requests and orders

-- a change is carried out; a question changes nothing
abbrev pub AnswersRequest : State → Request → Answer → State → Type 0
AnswersRequest old (request.Change it) told new = CarriesOut old it told new
AnswersRequest old (request.Ask it) told new =
    AnswersQuestion old.graph old.source_map it told × (new ≡ old)

-- one after another, with one answer to each
abbrev pub AnswersEach : State → List Request → List Answer → State → Type 0
AnswersEach old [] [] new = new ≡ old
AnswersEach old (it ∷ its) (told ∷ answers) new =
    (mid : State) × AnswersRequest old it told mid × AnswersEach mid its answers new
AnswersEach old _ _ new = ⊥

-- requests are carried out on an empty graph, which is merged into this one
pub record MergesOther (old : State) (its : List Request) (answers : List Answer) (told : Answer)
    (new : State) : Type 0 where
  pub other : State
  pub made : AnswersEach new_state its answers other
  pub merged : CarriesOutCommand (codes "merge") old (command.Merge other) told new

abbrev pub Responds : State → Order → Response → State → Type 0
Responds old (order.Request it) (response.Answer told) new = AnswersRequest old it told new
Responds old (order.Merge its) (response.Merge answers told) new =
    MergesOther old its answers told new
Responds old _ _ new = ⊥

-- one after another, with one reply to each
abbrev pub RespondsEach : State → List Order → List Response → State → Type 0
RespondsEach old [] [] new = new ≡ old
RespondsEach old (it ∷ its) (told ∷ replies) new =
    (mid : State) × Responds old it told mid × RespondsEach mid its replies new
RespondsEach old _ _ new = ⊥

-- whatever the first replies answer, the others answer too
abbrev pub RespondAsWell : List Response → List Response → Type 0
RespondAsWell replies others =
    (old new : State) (orders : List Order) → RespondsEach old orders replies new
    → RespondsEach old orders others new
