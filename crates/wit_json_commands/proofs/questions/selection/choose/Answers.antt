use Rattle.std.proofs.Common.{refl, rules, subst, sym}
use Rattle.std.specs.Prelude.{codes}
use Rattle.wit_json_commands.specs.Tells.{TellsSelected}
use Rattle.wit_json_commands.specs.declared.replies.answers.Answer.{Answer}
use Rattle.wit_json_commands.proofs.questions.selection.choose.Goals as goal

pub returns-in_ok-refused-in-Err : goal.returns-in_ok-refused-in-Err
returns-in_ok-refused-in-Err c =
    subst (λ (a : Answer). TellsSelected c.args.graph.now c.args.files.now c.args.mains.now c.args.world.now a) (sym c.in_ok-refused-in-Err.ensures) (search rules, refl)
