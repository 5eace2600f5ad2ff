use Rattle.std.proofs.Common.{◌≡◌, [], IfOk, codes, subst}
use Rattle.wit_json_commands.specs.Refusals.{refused}
use Rattle.wit_json_commands.proofs.WithdrawnAnswers.{stays, types_withdrawn}
use Rattle.wit_json_commands.proofs.runs.long_answers.withdrawn.Goals as goal

pub returns-then-is_long : goal.returns-then-is_long
returns-then-is_long c =
    types_withdrawn c.args.graph.now c.args.files.now c.args.answer c.refused.result (c.is_long.ensures c.if-is_long.true)
    (subst (λ e. IfOk c.refused.result (λ left. left ≡ refused c.args.graph.now c.args.files.now (codes "futures-and-streams") [] e)) c.from-error.ensures c.refused.ensures)

pub returns-else-is_long : goal.returns-else-is_long
returns-else-is_long c = stays c.args.answer
