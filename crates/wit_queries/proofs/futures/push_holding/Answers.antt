use Rattle.std.proofs.Common.{◌∙◌, ◌<◌, ℕ, length, get_or, nat_eq, sym, arith}
use Rattle.std.specs.List.{list_any}
use Rattle.std.proofs.lemmas.Bool.{false≢true}
use Rattle.wit_digraph.specs.facts.FreshFacts.{any_from_contains, no_any_from}
use Rattle.wit_queries.proofs.Unfolds.{passed_over, picked}
use Rattle.wit_queries.proofs.futures.push_holding.Goals.{then-has+in_ok-push, else-has}
use Rattle.wit_queries.proofs.futures.push_holding.Goals as goal

pub loop-place-preserved : goal.loop-place-preserved
loop-place-preserved c =
    let i : ℕ = c.loop-place.place-index in
    let x : ℕ = get_or c.args.places.now i 0 in
    let below : i < length c.args.places.now = omega arith in
    let marked = c.args.holding.now.order in
    elim c.if-has.branch [
      | then-has+in_ok-push w ↦
          picked (λ (t : ℕ). list_any (nat_eq t) marked) c.args.places.now i c.args.stack.now c.loop-place.stack c.if-has.stack below
          (any_from_contains x marked (c.has.ensures.0 w.if-has.true)) c.loop-place.invariant (w.stack-is ∙ w.in_ok-push.ensures.ok)
      | else-has w ↦
          passed_over (λ (t : ℕ). list_any (nat_eq t) marked) c.args.places.now i c.args.stack.now c.loop-place.stack c.if-has.stack below
          (no_any_from x marked (λ has. false≢true (sym w.if-has.false ∙ c.has.ensures.1 has))) c.loop-place.invariant w.stack-is
    ]
