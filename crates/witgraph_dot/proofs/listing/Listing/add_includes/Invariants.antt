use Rattle.std.proofs.Common.{◌≡◌, drop}
use Rattle.witgraph_dot.specs.Listed.{and_links}
use Rattle.witgraph_dot.proofs.listing.Listing.add_includes.Given as goal

-- with those that are left it has all
abbrev pub invariant-loop-other : goal.invariant-loop-other
invariant-loop-other l = record {
  included : and_links l.self.includes l.world (drop l.other-index l.included) ≡ and_links l.fn.self.includes l.world l.included;
  listed : l.self.imports ≡ l.fn.self.imports;
}
