use Rattle.std.proofs.Common.{subst, sym}
use Rattle.wit_resolve_graph.specs.Step.{IsCommandShaped}
use Rattle.wit_resolve_graph.specs.declared.command.Command.{Command}
use Rattle.wit_json_commands.proofs.EachAnswered.{shaped_command}
use Rattle.wit_json_commands.proofs.FirstUnshaped.{change_shaped, lack_answered}
use Rattle.wit_json_commands.proofs.runs.changes.answer_change.Goals as goal

pub answer_command-requires : goal.answer_command-requires
answer_command-requires c =
    let shaped = change_shaped c.args.change _ c.in_ok-unshaped.ensures c.in-None.is in
    subst (λ (it : Command). IsCommandShaped it) (sym c.command_of.ensures) (shaped_command c.args.change shaped)

pub returns-in-Some : goal.returns-in-Some
returns-in-Some c = lack_answered c.args.resolve.now c.args.change _ c.in-Some.unshaped c.in_ok-unshaped.ensures c.in-Some.is
