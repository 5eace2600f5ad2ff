use Rattle.std.proofs.Common.{◌≡◌, take}
use Rattle.witgraph_dot.proofs.listing.Listing.replace.Given as goal
use Rattle.witgraph_dot.specs.steps.Parts.{others_of}

-- those of the imports so far that are of other worlds
abbrev pub invariant-loop-import : goal.invariant-loop-import
invariant-loop-import l = l.imports ≡ others_of l.world (take l.import-index l.import-items)
