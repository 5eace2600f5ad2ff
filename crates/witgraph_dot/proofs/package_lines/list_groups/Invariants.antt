use Rattle.std.proofs.Common.{◌≡◌, ◌++◌, ◌-◌, drop}
use Rattle.witgraph_dot.specs.Listed.{with_links}
use Rattle.witgraph_dot.specs.Pushed.{group_links, line_imports, line_includes, repeated}
use Rattle.witgraph_dot.proofs.package_lines.list_groups.Given as goal
use Rattle.witgraph_dot.specs.steps.Parts.{with_brought}

-- with what the lines of the groups that are left list it has all
abbrev pub invariant-loop-group : goal.invariant-loop-group
invariant-loop-group l = record {
  listed :
      with_links l.listing.imports (group_links line_imports l.resolve.graph (drop l.group-index l.groups))
      ≡ with_links l.fn.listing.imports (group_links line_imports l.resolve.graph l.groups);
  added :
      with_links l.listing.includes (group_links line_includes l.resolve.graph (drop l.group-index l.groups))
      ≡ with_links l.fn.listing.includes (group_links line_includes l.resolve.graph l.groups);
  gathered : l.includes.items ++ group_links line_includes l.resolve.graph (drop l.group-index l.groups) ≡ group_links line_includes l.resolve.graph l.groups;
}

-- with what the rounds that are left bring it has all
abbrev pub invariant-loop-round : goal.invariant-loop-round
invariant-loop-round l = record {
  listed :
      repeated l.includes.items (l._round-end - l._round) l.listing.imports
      ≡ repeated l.includes.items l._round-end l.initial.listing.imports;
  added :
      repeated l.includes.items (l._round-end - l._round) l.listing.includes
      ≡ repeated l.includes.items l._round-end l.initial.listing.includes;
}
