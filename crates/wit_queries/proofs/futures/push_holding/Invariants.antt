use Rattle.std.proofs.Common.{◌≡◌, ◌++◌, filter, nat_eq, take}
use Rattle.std.specs.List.{list_any}
use Rattle.wit_queries.proofs.futures.push_holding.Given as goal

-- the marked ones of the first have been put there
abbrev pub invariant-loop-place : goal.invariant-loop-place
invariant-loop-place l =
    l.stack
    ≡ l.fn.stack ++ filter (λ t. list_any (nat_eq t) l.holding.order) (take l.place-index l.places)
