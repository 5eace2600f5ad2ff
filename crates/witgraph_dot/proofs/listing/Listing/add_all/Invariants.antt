use Rattle.std.proofs.Common.{◌≡◌, drop}
use Rattle.witgraph_dot.specs.Listed.{and_links}
use Rattle.witgraph_dot.proofs.listing.Listing.add_all.Given as goal

-- with those that are left it has all
abbrev pub invariant-loop-interface : goal.invariant-loop-interface
invariant-loop-interface l = record {
  listed : and_links l.self.imports l.world (drop l.interface-index l.interfaces) ≡ and_links l.fn.self.imports l.world l.interfaces;
  included : l.self.includes ≡ l.fn.self.includes;
}
