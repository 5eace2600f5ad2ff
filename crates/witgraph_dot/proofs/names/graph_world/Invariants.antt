use Rattle.std.proofs.Common.{◌≡◌, ◌++◌, map}
use Rattle.wit_data.specs.Foreign.{ForeignItem}
use Rattle.witgraph_dot.specs.Pushed.{foreign_items, graph_world}
use Rattle.witgraph_dot.proofs.names.graph_world.Given as goal
use Rattle.witgraph_dot.specs.steps.Parts.{world_among}

-- it isn't among the items so far
abbrev pub invariant-loop-owner : goal.invariant-loop-owner
invariant-loop-owner l = world_among l.resolve.graph l.«package» l.id (foreign_items l.owner-iterator) ≡ graph_world l.resolve.graph l.«package» l.id

-- nor among those of this package so far
abbrev pub invariant-loop-name : goal.invariant-loop-name
invariant-loop-name l =
    world_among l.resolve.graph l.«package» l.id (map (λ (named : ForeignItem). (l.owner, named)) l.name-iterator ++ foreign_items l.owner-iterator)
    ≡ graph_world l.resolve.graph l.«package» l.id
