use Rattle.std.proofs.Common.{◌≡◌, ◌++◌, take}
use Rattle.wit_ways.specs.Arrows.{graph_arrows}
use Rattle.wit_ways.specs.Asked.{asked_graph, asked_side}
use Rattle.wit_ways.proofs.asked.known_arrows.Given as goal

-- those of the graph, and the first of those that come
abbrev pub invariant-loop-arrow : goal.invariant-loop-arrow
invariant-loop-arrow l =
    l.arrows ≡ graph_arrows 0 (asked_graph l.resolve l.asked) (asked_side l.asked) ++ take l.arrow-index l.arrow-items
