use Rattle.std.proofs.Common.{◌≡◌, drop, fold}
use Rattle.wit_json.specs.declared.news.Told.{Told}
use Rattle.wit_json_commands.specs.declared.commands.orders.Order.{Order}
use Rattle.witgraph_calls.specs.News.{left_after}
use Rattle.witgraph_calls.proofs.news.left_after_all.Given as goal

-- what is left, and the commands that are left
abbrev pub invariant-loop-order : goal.invariant-loop-order
invariant-loop-order l =
    fold (λ (left : Told) (it : Order). left_after it left) l.left (drop l.order-index l.order-items) ≡ fold (λ (left : Told) (it : Order). left_after it left) l.fn.told l.orders
