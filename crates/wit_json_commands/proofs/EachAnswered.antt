-- AnswersRequest one after another, and the answers to commands.
use Rattle.std.proofs.Common.{◌≡◌, ℕ, suc, List, [], ◌∷◌, ◌++◌, refl, sym, subst}
use Rattle.std.specs.List.{AllByRecursion}
use Rattle.wit_data.specs.Each.{Each}
use Rattle.wit_data.specs.Shape.{IsGroupShaped}
use Rattle.wit_resolve_graph.specs.State.{State}
use Rattle.wit_resolve_graph.specs.Step.{IsCommandShaped, command_of}
use Rattle.wit_commands.specs.declared.change.Change.{Change}
use Rattle.wit_commands.specs.declared.change.Change.TheVariants as change
use Rattle.wit_json_commands.specs.declared.commands.orders.Order.{Order}
use Rattle.wit_json_commands.specs.declared.commands.orders.Request.{Request}
use Rattle.wit_json_commands.specs.declared.replies.answers.Answer.{Answer}
use Rattle.wit_json_commands.specs.declared.replies.answers.Response.{Response}
use Rattle.wit_json_commands.specs.Runs.{AnswersRequest, AnswersEach, Responds, RespondsEach}
use Rattle.wit_json_commands.specs.Unshaped.{IsChangeShaped}

-- one more request
pub AnswersEach-more : (old mid new : State) (its : List Request) (answers : List Answer) (it : Request) (told : Answer)
    → AnswersEach old its answers mid → AnswersRequest mid it told new → AnswersEach old (its ++ it ∷ []) (answers ++ told ∷ []) new
AnswersEach-more old mid new [] [] it told each one = (new, subst (λ (s : State). AnswersRequest s it told new) each one, refl)
AnswersEach-more old mid new (first ∷ its) (answer ∷ answers) it told each one = (each.0, each.1, AnswersEach-more each.0 mid new its answers it told each.2 one)
AnswersEach-more old mid new [] (answer ∷ answers) it told each one = absurd each
AnswersEach-more old mid new (first ∷ its) [] it told each one = absurd each

-- one more order
pub RespondsEach-more : (old mid new : State) (its : List Order) (replies : List Response) (it : Order) (told : Response)
    → RespondsEach old its replies mid → Responds mid it told new → RespondsEach old (its ++ it ∷ []) (replies ++ told ∷ []) new
RespondsEach-more old mid new [] [] it told each one = (new, subst (λ (s : State). Responds s it told new) each one, refl)
RespondsEach-more old mid new (first ∷ its) (reply ∷ replies) it told each one = (each.0, each.1, RespondsEach-more each.0 mid new its replies it told each.2 one)
RespondsEach-more old mid new [] (reply ∷ replies) it told each one = absurd each
RespondsEach-more old mid new (first ∷ its) [] it told each one = absurd each

-- ---- shapes

each_all : {X : Type 0} (P : X → Type 0) (xs : List X) → Each P xs → AllByRecursion P xs
each_all P [] each = tt
each_all P (x ∷ xs) each = (each 0 x refl, each_all P xs (λ i y at. each (suc i) y at))

-- the command that a change with its shape is has its shape
pub shaped_command : (it : Change) → IsChangeShaped it → IsCommandShaped (command_of it)
shaped_command (change.AddFeature name) shaped = tt
shaped_command (change.SetAllFeatures all) shaped = tt
shaped_command (change.SetTrackRule rule) shaped = tt
shaped_command (change.PushGroups main deps) shaped = (shaped.0, each_all IsGroupShaped deps shaped.1)
shaped_command (change.Importize home world out) shaped = tt
shaped_command (change.Exportize home world out keys) shaped = tt
shaped_command (change.Semver home world) shaped = tt
