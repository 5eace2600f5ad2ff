use Rattle.std.proofs.Common.{◌≡◌, length, take}
use Rattle.wit_queries.specs.steps.Unfolding.{OthersHoldNone}
use Rattle.wit_queries.proofs.futures.mark_holding.Given as goal

-- the first ones are marked where they hold some
abbrev pub invariant-loop-place : goal.invariant-loop-place
invariant-loop-place l = record {
  nodes : l.marked.nodes ≡ length l.held;
  others : OthersHoldNone l.types l.held (take l.place-index l.order) l.marked.order;
}
