use Rattle.std.proofs.Common.{◌≡◌, take}
use Rattle.witgraph_dot.specs.Listed.{listed_for}
use Rattle.witgraph_dot.proofs.listing.Listing.imports_of.Given as goal

-- those of the imports so far
abbrev pub invariant-loop-import : goal.invariant-loop-import
invariant-loop-import l = l.interfaces.items ≡ listed_for l.world (take l.import-index l.import-items)
