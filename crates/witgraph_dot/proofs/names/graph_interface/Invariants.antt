use Rattle.std.proofs.Common.{◌≡◌, ◌++◌, map}
use Rattle.wit_data.specs.Foreign.{ForeignItem}
use Rattle.witgraph_dot.specs.Pushed.{foreign_items, graph_interface}
use Rattle.witgraph_dot.proofs.names.graph_interface.Given as goal
use Rattle.witgraph_dot.specs.steps.Parts.{interface_among}

-- it isn't among the items so far
abbrev pub invariant-loop-owner : goal.invariant-loop-owner
invariant-loop-owner l = interface_among l.resolve.graph l.«package» l.id (foreign_items l.owner-iterator) ≡ graph_interface l.resolve.graph l.«package» l.id

-- nor among those of this package so far
abbrev pub invariant-loop-name : goal.invariant-loop-name
invariant-loop-name l =
    interface_among l.resolve.graph l.«package» l.id (map (λ (named : ForeignItem). (l.owner, named)) l.name-iterator ++ foreign_items l.owner-iterator)
    ≡ graph_interface l.resolve.graph l.«package» l.id
