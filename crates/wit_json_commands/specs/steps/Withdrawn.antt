-- Answers that memory is refused for after they were found.
use Rattle.std.specs.Prelude.{◌≡◌, ◌⊎◌, Bool, true, false, List, [], ◌∷◌, None, codes}
use Rattle.wit_graph_data.specs.declared.error_kind.ResolveErrorKind.TheVariants.{OutOfMemory}
use Rattle.wit_json_commands.specs.Refusals.{text_of_error}
use Rattle.wit_json_commands.specs.declared.replies.answers.Answer.{Answer}
use Rattle.wit_json_commands.specs.declared.replies.answers.Answer.TheVariants as answer
use Rattle.wit_json_commands.specs.declared.replies.answers.Response.{Response}
use Rattle.wit_json_commands.specs.declared.replies.answers.Response.TheVariants as response

abbrev pub lists_types : Answer → Bool
lists_types (answer.Types ids) = true
lists_types _ = false

-- the refusal of memory for the types that a function's values hold
abbrev pub no_types : Answer
no_types =
    answer.Refused (record {
      error = OutOfMemory;
      places = [];
      way = [];
      nearest = None;
      rendered = text_of_error [] [] (codes "futures-and-streams") [] OutOfMemory;
    })

-- an answer stays, or it is a list of types that is refused
abbrev pub Withdraws : Answer → Answer → Type 0
Withdraws (answer.Types ids) left = (left ≡ answer.Types ids) ⊎ (left ≡ no_types)
Withdraws told left = left ≡ told

abbrev pub WithdrawsEach : List Answer → List Answer → Type 0
WithdrawsEach [] [] = Unit {0}
WithdrawsEach (told ∷ answers) (left ∷ others) = Withdraws told left × WithdrawsEach answers others
WithdrawsEach _ _ = ⊥

abbrev pub WithdrawsIn : Response → Response → Type 0
WithdrawsIn (response.Answer told) (response.Answer left) = Withdraws told left
WithdrawsIn (response.Merge answers told) (response.Merge others left) =
    WithdrawsEach answers others × (left ≡ told)
WithdrawsIn _ _ = ⊥

abbrev pub WithdrawsAll : List Response → List Response → Type 0
WithdrawsAll [] [] = Unit {0}
WithdrawsAll (reply ∷ replies) (left ∷ others) =
    WithdrawsIn reply left × WithdrawsAll replies others
WithdrawsAll _ _ = ⊥
