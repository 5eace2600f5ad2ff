use Rattle.std.proofs.Common.{◌≡◌, ◌++◌, ◌∷◌, [], List, subst, sym, rules}
use Rattle.wit_json_commands.specs.declared.replies.answers.Answer.{Answer}
use Rattle.wit_json_commands.specs.steps.Withdrawn.{WithdrawsEach}
use Rattle.wit_json_commands.proofs.WithdrawnAnswers.{WithdrawsEach-more}
use Rattle.wit_json_commands.proofs.runs.long_answers.withdrawn_each.Goals as goal

pub loop-answer-preserved : goal.loop-answer-preserved
loop-answer-preserved c =
    let longer : c.push.new.self ≡ c.loop-answer.left ++ c.in_ok-answer.answer ∷ [] = search rules in
    subst (λ (left : List Answer). WithdrawsEach (c.loop-answer.yielded ++ c.in-Some.answer ∷ []) left) (sym longer)
    (WithdrawsEach-more c.loop-answer.yielded c.loop-answer.left c.in-Some.answer c.in_ok-answer.answer c.loop-answer.invariant c.in_ok-answer.ensures)
