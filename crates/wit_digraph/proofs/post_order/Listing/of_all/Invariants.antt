use Rattle.std.proofs.Common.{◌≡◌, ℕ, ◌<◌, [], length}
use Rattle.std.specs.Prelude.{Contains}
use Rattle.wit_digraph.specs.steps.PostOrder.{UsesFirst}
use Rattle.wit_digraph.proofs.post_order.Listing.of_all.Given as goal

-- the first nodes are listed
abbrev pub invariant-loop-root : goal.invariant-loop-root
invariant-loop-root l = record {
  nodes : l.listing.nodes ≡ length l.uses;
  all : (i : ℕ) → i < l.root → Contains l.listing.order i;
  uses_first : UsesFirst l.uses [] l.listing.order;
}
