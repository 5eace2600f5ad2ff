use Rattle.std.proofs.Common.{◌≡◌, drop, fold}
use Rattle.witgraph_dot.proofs.package_lines.list_included.Given as goal
use Rattle.witgraph_dot.specs.steps.Parts.{with_brought}

-- with what the includes that are left bring it has all
abbrev pub invariant-loop-include : goal.invariant-loop-include
invariant-loop-include l = record {
  listed : fold with_brought l.listing.imports (drop l.include-index l.includes) ≡ fold with_brought l.fn.listing.imports l.includes;
  added : fold with_brought l.listing.includes (drop l.include-index l.includes) ≡ fold with_brought l.fn.listing.includes l.includes;
}
