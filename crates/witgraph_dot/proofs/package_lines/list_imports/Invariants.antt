use Rattle.std.proofs.Common.{◌≡◌, filter_map}
use Rattle.wit_elaboration.specs.Entries.{keyed_interfaces}
use Rattle.witgraph_dot.specs.Listed.{and_links}
use Rattle.witgraph_dot.specs.Pushed.{graph_interface, line_imports}
use Rattle.witgraph_dot.proofs.package_lines.list_imports.Given as goal

-- with what the entries that are left list it has all
abbrev pub invariant-loop-key : goal.invariant-loop-key
invariant-loop-key l = record {
  listed :
      and_links l.listing.imports l.id (filter_map (graph_interface l.resolve.graph l.«package») (keyed_interfaces l.key-iterator))
      ≡ and_links l.fn.listing.imports l.id (line_imports l.resolve.graph l.«package» l.world);
  kept : l.listing.includes ≡ l.fn.listing.includes;
}
