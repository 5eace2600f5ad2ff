use Rattle.std.proofs.Common.{◌≡◌, ◌++◌, length}
use Rattle.wit_digraph.specs.PostOrder.{fresh, post_order}
use Rattle.wit_digraph.proofs.Stack.{IsWalking, turns}
use Rattle.wit_digraph.proofs.post_order.Listing.list_post_order.Given as goal

abbrev pub invariant-loop-frame : goal.invariant-loop-frame
invariant-loop-frame l = record {
  walking : IsWalking l.uses (l.fn.self.order ++ fresh l.fn.self.order (post_order l.uses l.root))
      l.self.order l.stack.items;
  nodes : l.self.nodes ≡ length l.uses;
}

-- each turn takes nodes off what the stack has to walk, or goes one frame deeper into it
abbrev pub decreases-loop-frame : goal.decreases-loop-frame
decreases-loop-frame l = turns l.uses l.stack.items
