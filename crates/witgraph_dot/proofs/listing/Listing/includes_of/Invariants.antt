use Rattle.std.proofs.Common.{◌≡◌, take}
use Rattle.witgraph_dot.specs.Listed.{listed_for}
use Rattle.witgraph_dot.proofs.listing.Listing.includes_of.Given as goal

-- those of the includes so far
abbrev pub invariant-loop-include : goal.invariant-loop-include
invariant-loop-include l = l.worlds.items ≡ listed_for l.world (take l.include-index l.include-items)
