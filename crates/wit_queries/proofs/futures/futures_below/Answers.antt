use Rattle.std.proofs.Common.{◌∙◌, ◌<◌, List, [], ℕ, All, length, sym, subst}
use Rattle.wit_digraph.specs.steps.PostOrder.{UsesFirst}
use Rattle.wit_queries.proofs.Unfolds.{order_below, order_uses_first}
use Rattle.wit_queries.proofs.futures.futures_below.Goals as goal

pub mark_holding-requires-clause-in_range : goal.mark_holding-requires-clause-in_range
mark_holding-requires-clause-in_range c =
    subst (λ (us : List ℕ). All (λ t. t < length c.args.held.now) us) (sym (c.as_slice.ensures ∙ c.in_ok-order.ensures))
    (order_below c.args.held.now c.requires.acyclic c.args.roots.now c.requires.roots)

pub mark_holding-requires-clause-uses_first : goal.mark_holding-requires-clause-uses_first
mark_holding-requires-clause-uses_first c =
    subst (λ (us : List ℕ). UsesFirst c.args.held.now [] us) (sym (c.as_slice.ensures ∙ c.in_ok-order.ensures))
    (order_uses_first c.args.held.now c.requires.acyclic c.args.roots.now c.requires.roots)
