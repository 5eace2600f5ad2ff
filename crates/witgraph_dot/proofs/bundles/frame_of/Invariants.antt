use Rattle.std.proofs.Common.{◌≡◌, ◌++◌, filter, map, ℕ, List}
use Rattle.witgraph_dot.specs.Sets.{is_one_of}
use Rattle.witgraph_dot.proofs.bundles.frame_of.Given as goal
use Rattle.witgraph_dot.specs.steps.Parts.{frame_of}

-- those so far, and those of the entries that are left
abbrev pub invariant-loop-id : goal.invariant-loop-id
invariant-loop-id l = l.frame ++ filter (is_one_of l.shown) (map (λ (e : List ℕ × ℕ). e.1) l.id-iterator) ≡ frame_of l.shown l.«package»
