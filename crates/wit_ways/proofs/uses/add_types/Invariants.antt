use Rattle.std.proofs.Common.{ℕ, ◌≡◌, ◌++◌, List, filter_map}
use Rattle.wit_ways.specs.Arrows.{use_arrow}
use Rattle.wit_ways.proofs.uses.add_types.Given as goal

-- the uses so far, and those that are left
abbrev pub invariant-loop-id : goal.invariant-loop-id
invariant-loop-id l =
    l.arrows ++ filter_map (λ (e : List ℕ × ℕ). use_arrow l.features l.offset l.types l.names l.user e.1) l.id-iterator
    ≡ l.initial.arrows ++ filter_map (λ (e : List ℕ × ℕ). use_arrow l.features l.offset l.types l.names l.user e.1) l.own
