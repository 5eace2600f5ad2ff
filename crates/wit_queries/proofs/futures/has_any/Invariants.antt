use Rattle.std.proofs.Common.{◌<◌, ℕ, get_or, Contains}
use Rattle.wit_queries.proofs.futures.has_any.Given as goal

-- none of the first ones is
abbrev pub invariant-loop-place : goal.invariant-loop-place
invariant-loop-place l =
    (k : ℕ) → k < l.place-index → Contains l.marked.order (get_or l.places k 0) → ⊥
