use Rattle.std.proofs.Common.{◌≡◌, take}
use Rattle.witgraph_dot.specs.Scene.{included_imports}
use Rattle.witgraph_dot.proofs.scene.included_imports.Given as goal

-- those of the worlds so far
abbrev pub invariant-loop-world : goal.invariant-loop-world
invariant-loop-world l = l.imports.items ≡ included_imports l.resolve.graph.worlds (take l.world-index l.worlds)
