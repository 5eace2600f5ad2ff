use Rattle.std.proofs.Common.{◌≡◌, ◌++◌, ◌∷◌, [], List, subst, sym, rules}
use Rattle.wit_json_commands.specs.declared.replies.answers.Answer.{Answer}
use Rattle.wit_json_commands.specs.Runs.{AnswersEach}
use Rattle.wit_json_commands.proofs.EachAnswered.{AnswersEach-more}
use Rattle.wit_json_commands.proofs.runs.orders.answers_to.Goals as goal

pub loop-request-preserved : goal.loop-request-preserved
loop-request-preserved c =
    let longer : c.push.new.self ≡ c.loop-request.answers ++ c.in_ok-answer.answer ∷ [] = search rules in
    subst (λ (answers : List Answer). AnswersEach c.args.resolve.now (c.loop-request.yielded ++ c.in-Some.request ∷ []) answers c.answer_to.new.resolve) (sym longer)
    (AnswersEach-more c.args.resolve.now c.loop-request.resolve c.answer_to.new.resolve c.loop-request.yielded c.loop-request.answers c.in-Some.request c.in_ok-answer.answer c.loop-request.invariant c.in_ok-answer.ensures)
