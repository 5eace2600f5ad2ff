use Rattle.std.proofs.Common.{◌∙◌, ◌<◌, ℕ, List, drop, All, ap, subst, sym}
use Rattle.std.proofs.lemmas.List.{take_rest}
use Rattle.std.proofs.lemmas.List.Elements.{All-drop}
use Rattle.wit_elaboration.proofs.imports.order_from.Goals as goal

pub returns-clause-order : goal.returns-clause-order
returns-clause-order c = take_rest c.order.result.now c.args.start ∙ ap (λ (xs : List ℕ). drop c.args.start xs) c.order.ensures.order

pub returns-clause-in_range : goal.returns-clause-in_range
returns-clause-in_range c =
    let below : ℕ → Type 0 = λ i. i < c.args.walked.now.nodes in
    subst (λ (xs : List ℕ). All below xs) (sym (take_rest c.order.result.now c.args.start))
    (All-drop below c.args.start c.order.result.now (subst (λ (xs : List ℕ). All below xs) (sym c.order.ensures.order) c.order.ensures.in_range))
