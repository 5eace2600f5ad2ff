use Rattle.std.proofs.Common.{◌≡◌, take}
use Rattle.witgraph_dot.specs.Sets.{intersection}
use Rattle.witgraph_dot.proofs.sets.intersection.Given as goal

-- those so far
abbrev pub invariant-loop-id : goal.invariant-loop-id
invariant-loop-id l = l.left.items ≡ intersection (take l.id-index l.interfaces) l.others
