use Rattle.std.proofs.Common.{◌≡◌, ◌++◌, take}
use Rattle.witgraph_dot.proofs.bundles.add_interfaces.Given as goal
use Rattle.witgraph_dot.specs.steps.Parts.{arrows_to_interfaces}

-- the arrows so far
abbrev pub invariant-loop-id : goal.invariant-loop-id
invariant-loop-id l = l.arrows.items ≡ l.fn.arrows.items ++ arrows_to_interfaces l.kind (take l.id-index l.targets)
