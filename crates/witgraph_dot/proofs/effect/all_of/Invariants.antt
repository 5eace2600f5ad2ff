use Rattle.std.proofs.Common.{◌≡◌, ◌∷◌, take}
use Rattle.witgraph_dot.proofs.effect.all_of.Given as goal

-- the main group and those after it so far
abbrev pub invariant-loop-group : goal.invariant-loop-group
invariant-loop-group l = l.groups ≡ l.main ∷ take l.group-index l.deps
