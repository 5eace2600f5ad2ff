-- Commands that are carried out in two runs, the second of which begins with the state that the first leaves.
use Rattle.std.specs.Prelude.{List, ◌++◌}
use Rattle.wit_resolve_graph.specs.State.{State}
use Rattle.wit_json_commands.specs.declared.commands.orders.Order.{Order}
use Rattle.wit_json_commands.specs.declared.replies.answers.Response.{Response}
use Rattle.wit_json_commands.specs.Runs.{RespondsEach}

-- one run of all of them has these replies, and leaves this state
abbrev pub RunsGoOn : Type 0
RunsGoOn =
    (old mid new : State) (its others : List Order) (replies more : List Response)
    → RespondsEach old its replies mid → RespondsEach mid others more new
    → RespondsEach old (its ++ others) (replies ++ more) new
