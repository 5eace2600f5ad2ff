use Rattle.std.proofs.Common.{◌∙◌, ◌≡◌, ◌++◌, ◌∷◌, [], List, ℕ, Contains, ap, sym, subst, filter, nat_eq, reverse}
use Rattle.std.specs.List.{flat_map, list_any}
use Rattle.std.proofs.lemmas.List.Elements.{Contains-push}
use Rattle.wit_queries.specs.steps.Unfolding.{futures_of}
use Rattle.wit_queries.proofs.Unfolds.{IsUnfolding, IsUnfolding-begun, IsUnfolding-step, step-shorter, told-more, told-same}
use Rattle.wit_queries.proofs.futures.unfold.Goals.{then-is_future+in_ok-push, else-is_future}
use Rattle.wit_queries.proofs.futures.unfold.Goals as goal
use Rattle.wit_graph_data.specs.steps.Parts.{is_future}

pub loop-place-init : goal.loop-place-init
loop-place-init c =
    let marked = c.args.holding.now.order in
    subst (λ (told : List ℕ). IsUnfolding c.args.types.now c.args.held.now c.args.roots.now c.push_holding.new.stack told) (sym c.new-found.ensures.items)
    (IsUnfolding-begun c.args.types.now c.args.held.now c.requires.acyclic c.args.roots.now c.requires.roots marked c.requires.others c.push_holding.new.stack
    (c.in_ok-push_holding.ensures ∙ ap (λ (us : List ℕ). us ++ filter (λ (t : ℕ). list_any (nat_eq t) marked) c.args.roots.now) c.new-stack.ensures))

pub direct_uses-requires : goal.direct_uses-requires
direct_uses-requires c =
    c.loop-place.invariant.in_range c.in-Some.place
    (subst (λ (us : List ℕ). Contains us c.in-Some.place) (sym c.in-Some.ensures.last) (Contains-push c.pop.new.self c.in-Some.place))

pub loop-place-smaller : goal.loop-place-smaller
loop-place-smaller c =
    step-shorter c.args.types.now c.args.held.now c.requires.acyclic c.args.roots.now c.requires.roots c.args.holding.now.order c.requires.others
    c.loop-place.stack c.pop.new.self c.direct_uses.result.now c.push_holding-in-Some.new.stack c.in-Some.place
    c.in-Some.ensures.last c.direct_uses.ensures c.in_ok-push_holding-2.ensures
    (c.loop-place.invariant.in_range c.in-Some.place
    (subst (λ (us : List ℕ). Contains us c.in-Some.place) (sym c.in-Some.ensures.last) (Contains-push c.pop.new.self c.in-Some.place)))

pub loop-place-preserved : goal.loop-place-preserved
loop-place-preserved c =
    let more : reverse c.if-is_future.found.items ≡ filter (is_future c.args.types.now) (c.in-Some.place ∷ []) ++ reverse c.loop-place.found.items =
    elim c.if-is_future.branch [
      | then-is_future+in_ok-push w ↦
          let one : c.if-is_future.found.items ≡ c.loop-place.found.items ++ c.in-Some.place ∷ [] = cc (w.found-is, w.in_ok-push.ensures.items, w.from_index.ensures) in
          told-more c.args.types.now c.in-Some.place c.loop-place.found.items c.if-is_future.found.items (sym c.is_future.ensures ∙ w.if-is_future.true) one
      | else-is_future w ↦
          let one : c.if-is_future.found.items ≡ c.loop-place.found.items = cc (w.found-is) in
          told-same c.args.types.now c.in-Some.place c.loop-place.found.items c.if-is_future.found.items (sym c.is_future.ensures ∙ w.if-is_future.false) one
    ] in
    IsUnfolding-step c.args.types.now c.args.held.now c.requires.acyclic c.args.roots.now c.requires.roots c.args.holding.now.order c.requires.others
    c.loop-place.stack c.pop.new.self c.direct_uses.result.now c.push_holding-in-Some.new.stack c.loop-place.found.items c.if-is_future.found.items c.in-Some.place
    c.in-Some.ensures.last c.direct_uses.ensures c.in_ok-push_holding-2.ensures more c.loop-place.invariant

pub returns : goal.returns
returns c =
    c.reverse.ensures.items
    ∙ subst (λ (us : List ℕ). flat_map (futures_of c.args.types.now c.args.held.now) us ++ reverse c.loop-place.found.items ≡ flat_map (futures_of c.args.types.now c.args.held.now) c.args.roots.now)
    c.in_default.ensures.empty c.loop-place.invariant.tells
