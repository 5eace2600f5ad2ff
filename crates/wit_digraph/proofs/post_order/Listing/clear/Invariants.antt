use Rattle.std.proofs.Common.{◌≡◌, drop}
use Rattle.wit_digraph.proofs.Marks.{MarksAreOf}
use Rattle.wit_digraph.proofs.post_order.Listing.clear.Given as goal

abbrev pub invariant-loop-index : goal.invariant-loop-index
invariant-loop-index l = record {
  same : l.self-inside.order ≡ l.initial.self-inside.order;
  nodes : l.self-inside.nodes ≡ l.initial.self-inside.nodes;
  marks_are_of : MarksAreOf l.self-inside.nodes l.self-inside.marks.items
      (drop l.index l.self-inside.order);
}
