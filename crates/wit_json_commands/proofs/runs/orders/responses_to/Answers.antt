use Rattle.std.proofs.Common.{◌≡◌, ◌++◌, ◌∷◌, [], List, subst, sym, rules}
use Rattle.wit_json_commands.specs.declared.replies.answers.Response.{Response}
use Rattle.wit_json_commands.specs.Runs.{RespondsEach}
use Rattle.wit_json_commands.proofs.EachAnswered.{RespondsEach-more}
use Rattle.wit_json_commands.proofs.runs.orders.responses_to.Goals as goal

pub loop-order-preserved : goal.loop-order-preserved
loop-order-preserved c =
    let longer : c.push.new.self ≡ c.loop-order.replies ++ c.in_ok-reply.reply ∷ [] = search rules in
    subst (λ (replies : List Response). RespondsEach c.args.resolve.now (c.loop-order.yielded ++ c.in-Some.order ∷ []) replies c.response_to.new.resolve) (sym longer)
    (RespondsEach-more c.args.resolve.now c.loop-order.resolve c.response_to.new.resolve c.loop-order.yielded c.loop-order.replies c.in-Some.order c.in_ok-reply.reply c.loop-order.invariant c.in_ok-reply.ensures)
