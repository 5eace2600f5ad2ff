use Rattle.std.proofs.Common.{◌∙◌, ◌≡◌, ◌++◌, ◌<◌, length, List, ℕ, get_or, ap, arith}
use Rattle.wit_digraph.specs.Relation.{direct}
use Rattle.wit_digraph.specs.PostOrder.{fresh, post_order}
use Rattle.wit_digraph.specs.steps.PostOrder.{Listed}
use Rattle.wit_elaboration.proofs.Importing.{post_orders-next}
use Rattle.wit_elaboration.proofs.imports.list_uses.Goals as goal

pub loop-used-preserved : goal.loop-used-preserved
loop-used-preserved c =
    let row = c.direct_uses-used-items.ensures in
    let js : List ℕ = direct c.args.uses.now c.args.interface in
    let at : ℕ = c.loop-used.used-index in
    let below : at < length js = omega (arith, ap length row) in
    let listed : c.list_post_order.new.self.order ≡ c.loop-used.walked.order ++ fresh c.loop-used.walked.order (post_order c.args.uses.now (get_or js at 0)) =
    ap (λ (l : Listed). l.order) c.in_ok-list_post_order.ensures.ok
    ∙ ap (λ (xs : List ℕ). c.loop-used.walked.order ++ fresh c.loop-used.walked.order (post_order c.args.uses.now (get_or xs at 0))) row in
    record {
      is_walk = record { nodes = c.in_ok-list_post_order.ensures.nodes ∙ c.loop-used.invariant.is_walk.nodes; uses_first = c.in_ok-list_post_order.ensures.uses_first };
      nodes = c.in_ok-list_post_order.ensures.nodes ∙ c.loop-used.invariant.nodes;
      order_is = post_orders-next c.args.uses.now js at c.args.walked.now.order c.loop-used.walked.order c.list_post_order.new.self.order below c.loop-used.invariant.order_is listed;
    }
