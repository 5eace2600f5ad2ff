-- Runs of commands, one after another.
use Rattle.std.proofs.Common.{List, [], ◌∷◌, ◌++◌, refl, subst}
use Rattle.wit_resolve_graph.specs.State.{State}
use Rattle.wit_resolve_graph.specs.Step.{Run, Step}
use Rattle.wit_resolve_graph.specs.declared.command.Command.{Command}
use Rattle.wit_resolve_graph.specs.declared.command.Reply.{Reply}

-- one more step
pub Run-more : (old mid new : State) (commands : List Command) (replies : List Reply) (command : Command) (reply : Reply)
    → Run old commands replies mid → Step mid command reply new → Run old (commands ++ command ∷ []) (replies ++ reply ∷ []) new
Run-more old mid new [] [] command reply run step = (new, subst (λ (s : State). Step s command reply new) run step, refl)
Run-more old mid new (first ∷ commands) (answer ∷ replies) command reply run step = (run.0, run.1, Run-more run.0 mid new commands replies command reply run.2 step)
Run-more old mid new [] (answer ∷ replies) command reply run step = absurd run
Run-more old mid new (first ∷ commands) [] command reply run step = absurd run
