use Rattle.std.proofs.Common.{◌++◌, [], List, ℕ, ap, ◌∙◌, sym}
use Rattle.wit_digraph.specs.facts.FreshFacts.{fresh-absent}
use Rattle.wit_digraph.specs.steps.PostOrder.{Listed}
use Rattle.wit_elaboration.proofs.conflict.add_node.Goals as goal

pub returns-in_ok-push-clause-ok : goal.returns-in_ok-push-clause-ok
returns-in_ok-push-clause-ok c =
    ap (λ (l : Listed). l.order) c.in_ok-push.ensures.ok
    ∙ ap (λ (xs : List ℕ). c.args.listing.now.order ++ xs) (sym (fresh-absent c.args.listing.now.order c.args.node [] (λ listed. let on = c.has.ensures.1 listed in cc)))
