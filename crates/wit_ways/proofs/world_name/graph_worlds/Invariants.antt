use Rattle.std.proofs.Common.{◌≡◌, ◌++◌, drop, filter_map}
use Rattle.wit_ways.specs.Worlds.{graph_worlds, world_place}
use Rattle.wit_ways.proofs.world_name.graph_worlds.Given as goal

-- those so far, and those of the worlds that are left, are all
abbrev pub invariant-loop-world : goal.invariant-loop-world
invariant-loop-world l = l.worlds ++ filter_map (world_place l.offset l.graph) (drop l.world-index l.world-items) ≡ graph_worlds l.offset l.graph
