use Rattle.std.proofs.Common.{◌≡◌, take}
use Rattle.witgraph_dot.specs.Sets.{without}
use Rattle.witgraph_dot.proofs.sets.without.Given as goal

-- those so far
abbrev pub invariant-loop-id : goal.invariant-loop-id
invariant-loop-id l = l.left.items ≡ without (take l.id-index l.interfaces) l.others
