use Rattle.std.proofs.Common.{◌≡◌, ℕ, List, filter, map, take}
use Rattle.std.specs.Prelude.{nat_lt}
use Rattle.wit_shape.proofs.uses.is_acyclic_among.Given as goal

-- the rows of the first ones
abbrev pub invariant-loop-row : goal.invariant-loop-row
invariant-loop-row l = l.rows ≡ map (λ (row : List ℕ). filter (λ j. nat_lt j l.count) row) (take l.row-index (take l.count l.uses))
