use Rattle.std.proofs.Common.{◌∙◌, ◌<◌, List, [], ℕ, length, get_or, take, sym, subst, arith}
use Rattle.std.proofs.lemmas.List.{take_all, take_more}
use Rattle.std.proofs.lemmas.List.Elements.{Contains-get_or}
use Rattle.std.proofs.lemmas.Option.{slice_get-get_or}
use Rattle.wit_digraph.specs.Relation.{direct}
use Rattle.wit_digraph.specs.facts.PostOrderFacts.{UsesFirst-at}
use Rattle.wit_queries.specs.steps.Unfolding.{OthersHoldNone}
use Rattle.wit_queries.proofs.futures.mark_holding.Goals as goal

pub loop-place-preserved : goal.loop-place-preserved
loop-place-preserved c =
    let i : ℕ = c.loop-place.place-index in
    let order : List ℕ = c.args.order.now in
    let below : i < length order = omega arith in
    record {
      nodes = c.mark.ensures.nodes ∙ c.loop-place.invariant.nodes;
      others = subst (λ (ts : List ℕ). OthersHoldNone c.args.types.now c.args.held.now ts c.mark.new.marked.order) (sym (take_more order i 0 below))
          (c.in_ok-mark.ensures.others (take i order) (λ k d within. let used : List ℕ = direct c.args.held.now (get_or order i 0) in
          UsesFirst-at c.args.held.now order [] i (get_or order i 0) (get_or used k d) c.requires.uses_first (slice_get-get_or order i 0 below) (Contains-get_or used k d within)) c.loop-place.invariant.others);
    }

pub returns-clause-others : goal.returns-clause-others
returns-clause-others c =
    subst (λ (ts : List ℕ). OthersHoldNone c.args.types.now c.args.held.now ts c.loop-place.marked.order) (take_all c.loop-place.place-index c.args.order.now (omega arith)) c.loop-place.invariant.others
