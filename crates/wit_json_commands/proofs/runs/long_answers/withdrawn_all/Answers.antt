use Rattle.std.proofs.Common.{◌≡◌, ◌++◌, ◌∷◌, [], List, subst, sym, rules}
use Rattle.wit_json_commands.specs.declared.replies.answers.Response.{Response}
use Rattle.wit_json_commands.specs.steps.Withdrawn.{WithdrawsAll}
use Rattle.wit_json_commands.proofs.WithdrawnAnswers.{WithdrawsAll-more}
use Rattle.wit_json_commands.proofs.runs.long_answers.withdrawn_all.Goals as goal

pub loop-reply-preserved : goal.loop-reply-preserved
loop-reply-preserved c =
    let longer : c.push.new.self ≡ c.loop-reply.left ++ c.in_ok-reply.reply ∷ [] = search rules in
    subst (λ (left : List Response). WithdrawsAll (c.loop-reply.yielded ++ c.in-Some.reply ∷ []) left) (sym longer)
    (WithdrawsAll-more c.loop-reply.yielded c.loop-reply.left c.in-Some.reply c.in_ok-reply.reply c.loop-reply.invariant c.in_ok-reply.ensures)
