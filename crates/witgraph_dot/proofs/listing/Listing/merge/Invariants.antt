use Rattle.std.proofs.Common.{◌≡◌, drop, filter_map}
use Rattle.witgraph_dot.specs.Listed.{moved_link, with_links}
use Rattle.witgraph_dot.proofs.listing.Listing.merge.Given as goal

-- with the imports that are left it has all
abbrev pub invariant-loop-import : goal.invariant-loop-import
invariant-loop-import l = record {
  listed :
      with_links l.self.imports (filter_map (moved_link l.remap.worlds l.remap.interfaces) (drop l.import-index l.import-items))
      ≡ with_links l.fn.self.imports (filter_map (moved_link l.remap.worlds l.remap.interfaces) l.other.imports);
  kept : l.self.includes ≡ l.fn.self.includes;
}

-- with the includes that are left it has all
abbrev pub invariant-loop-include : goal.invariant-loop-include
invariant-loop-include l = record {
  listed : l.self.imports ≡ with_links l.fn.self.imports (filter_map (moved_link l.remap.worlds l.remap.interfaces) l.other.imports);
  added :
      with_links l.self.includes (filter_map (moved_link l.remap.worlds l.remap.worlds) (drop l.include-index l.include-items))
      ≡ with_links l.fn.self.includes (filter_map (moved_link l.remap.worlds l.remap.worlds) l.other.includes);
}
