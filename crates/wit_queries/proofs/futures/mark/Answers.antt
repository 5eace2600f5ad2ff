use Rattle.std.proofs.Common.{◌∙◌, ◌<◌, All, List, ℕ, ap, length, sym, subst, Contains}
use Rattle.wit_digraph.specs.steps.PostOrder.{Listed}
use Rattle.wit_queries.specs.steps.Unfolding.{KeepsOthers}
use Rattle.wit_queries.proofs.Unfolds.{KeepsOthers-marked, KeepsOthers-none, KeepsOthers-was}
use Rattle.wit_queries.proofs.futures.mark.Goals as goal

pub returns-then-has-clause-others : goal.returns-then-has-clause-others
returns-then-has-clause-others c = KeepsOthers-was c.args.types.now c.args.held.now c.requires.acyclic c.args.marked.now.order c.args.place (c.has.ensures.0 c.if-has.true)

pub has_any-requires : goal.has_any-requires
has_any-requires c =
    subst (λ (n : ℕ). All (λ t. t < n) c.direct_uses.result.now) (sym c.requires.nodes)
    (subst (λ (us : List ℕ). All (λ t. t < length c.args.held.now) us) (sym c.direct_uses.ensures) (c.requires.acyclic.in_range c.args.place))

pub returns-in_ok-push-clause-others : goal.returns-in_ok-push-clause-others
returns-in_ok-push-clause-others c =
    subst (λ (new : List ℕ). KeepsOthers c.args.types.now c.args.held.now c.args.marked.now.order new c.args.place)
    (sym (ap (λ (l : Listed). l.order) c.in_ok-push.ensures.ok))
    (KeepsOthers-marked c.args.types.now c.args.held.now c.requires.acyclic c.args.marked.now.order c.args.place)

pub returns-else-has_any-clause-others : goal.returns-else-has_any-clause-others
returns-else-has_any-clause-others c =
    KeepsOthers-none c.args.types.now c.args.held.now c.requires.acyclic c.args.marked.now.order c.args.place c.requires.in_range
    (sym c.is_future.ensures ∙ c.if-is_future.false)
    (λ u edge. c.has_any.ensures c.if-has_any.false u (subst (λ (us : List ℕ). Contains us u) (sym c.direct_uses.ensures) edge))
