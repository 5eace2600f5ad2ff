use Rattle.std.proofs.Common.{IfOk, subst, sym}
use Rattle.wit_json_commands.specs.steps.Searching.{TellsChange, TellsPush}
use Rattle.wit_json_commands.proofs.runs.shapes.find_unshaped.Goals as goal

pub returns-in-PushGroups : goal.returns-in-PushGroups
returns-in-PushGroups c =
    subst (λ it. IfOk c.find_in_push.result (TellsChange it)) (sym c.in-PushGroups.is)
    (subst (λ deps. IfOk c.find_in_push.result (TellsPush c.in-PushGroups.main deps)) c.as_slice.ensures c.find_in_push.ensures)
