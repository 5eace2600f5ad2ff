-- One run after another.
use Rattle.std.proofs.Common.{List, [], ◌∷◌, ◌++◌, subst}
use Rattle.wit_resolve_graph.specs.State.{State}
use Rattle.wit_json_commands.specs.declared.commands.orders.Order.{Order}
use Rattle.wit_json_commands.specs.declared.replies.answers.Response.{Response}
use Rattle.wit_json_commands.specs.Runs.{RespondsEach}

pub goes_on : (old mid new : State) (its others : List Order) (replies more : List Response) → RespondsEach old its replies mid → RespondsEach mid others more new
    → RespondsEach old (its ++ others) (replies ++ more) new
goes_on old mid new [] others [] more first second = subst (λ (s : State). RespondsEach s others more new) first second
goes_on old mid new (it ∷ its) others (reply ∷ replies) more first second = (first.0, first.1, goes_on first.0 mid new its others replies more first.2 second)
goes_on old mid new [] others (reply ∷ replies) more first second = absurd first
goes_on old mid new (it ∷ its) others [] more first second = absurd first
