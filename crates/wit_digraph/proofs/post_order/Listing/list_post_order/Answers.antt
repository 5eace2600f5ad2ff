use Rattle.std.proofs.Common.{◌<◌, ◌≤◌, ℕ, List, length, get_or, ap, arith}
use Rattle.wit_digraph.specs.Relation.{direct}
use Rattle.wit_digraph.specs.steps.PostOrder.{Listed}
use Rattle.wit_digraph.proofs.Stack.{IsWalking-uses_first, walk_is_listed, start_walk, step_enter, step_skip, step_list, step_drop, turns_enter, turns_skip, turns_pop}
use Rattle.wit_digraph.proofs.post_order.Listing.list_post_order.Goals as goal

pub returns-then-has-clause-ok : goal.returns-then-has-clause-ok
returns-then-has-clause-ok c =
    let listed = c.has.ensures.0 c.if-has.true in
    let same = walk_is_listed c.args.uses.now c.requires.acyclic c.args.self.now.order c.requires.uses_first c.args.root c.requires.root listed in
    ap (λ (order : List ℕ). let l : Listed = record { nodes = c.args.self.now.nodes; order = order } in l) same

pub loop-frame-init : goal.loop-frame-init
loop-frame-init c = record {
  walking = rw c.in_ok-stack.ensures.items (start_walk c.args.uses.now c.requires.acyclic c.args.self.now.order c.args.root c.requires.root c.requires.uses_first);
  nodes = c.requires.nodes;
}

pub loop-frame-smaller-in-Continue-branch-3 : goal.loop-frame-smaller-in-Continue-branch-3
loop-frame-smaller-in-Continue-branch-3 c =
    let row = c.direct_uses-used_nodes.ensures in
    let more : c.in-Some.frame.next < length (direct c.args.uses.now c.in-Some.frame.node) = omega (arith, ap length row) in
    rw (c.in_ok-push-2.ensures.items, c.in_ok-push.ensures.items, c.in-Some.ensures.items)
    (turns_enter c.args.uses.now c.requires.acyclic _ c.in-Some.frame.node c.in-Some.frame.next _ more (ap (λ (xs : List ℕ). get_or xs c.in-Some.frame.next 0) row))

pub loop-frame-preserved-in-Continue-branch-3 : goal.loop-frame-preserved-in-Continue-branch-3
loop-frame-preserved-in-Continue-branch-3 c =
    let row = c.direct_uses-used_nodes.ensures in
    let more : c.in-Some.frame.next < length (direct c.args.uses.now c.in-Some.frame.node) = omega (arith, ap length row) in
    let is = rw c.in-Some.ensures.items at c.loop-frame.invariant.walking in
    record {
      walking = rw (c.in_ok-push-2.ensures.items, c.in_ok-push.ensures.items)
          (step_enter c.args.uses.now c.requires.acyclic _ _ _ c.in-Some.frame.node c.in-Some.frame.next _ is more (ap (λ (xs : List ℕ). get_or xs c.in-Some.frame.next 0) row));
      nodes = c.loop-frame.invariant.nodes;
    }

pub returns-in_err-push-2-clause-uses_first : goal.returns-in_err-push-2-clause-uses_first
returns-in_err-push-2-clause-uses_first c = IsWalking-uses_first _ _ _ _ c.loop-frame.invariant.walking

pub loop-frame-smaller-else-not-has : goal.loop-frame-smaller-else-not-has
loop-frame-smaller-else-not-has c =
    let row = c.direct_uses-used_nodes.ensures in
    let more : c.in-Some.frame.next < length (direct c.args.uses.now c.in-Some.frame.node) = omega (arith, ap length row) in
    rw (c.in_ok-push.ensures.items, c.in-Some.ensures.items)
    (turns_skip c.args.uses.now c.requires.acyclic _ c.in-Some.frame.node c.in-Some.frame.next _ more (ap (λ (xs : List ℕ). get_or xs c.in-Some.frame.next 0) row))

pub loop-frame-preserved-else-not-has : goal.loop-frame-preserved-else-not-has
loop-frame-preserved-else-not-has c =
    let row = c.direct_uses-used_nodes.ensures in
    let more : c.in-Some.frame.next < length (direct c.args.uses.now c.in-Some.frame.node) = omega (arith, ap length row) in
    let is = rw c.in-Some.ensures.items at c.loop-frame.invariant.walking in
    let listed = c.has-then-frame-used_nodes.ensures.0 c.if-not-has.false in
    record {
      walking = rw c.in_ok-push.ensures.items
          (step_skip c.args.uses.now c.requires.acyclic _ _ _ c.in-Some.frame.node c.in-Some.frame.next _ is more (ap (λ (xs : List ℕ). get_or xs c.in-Some.frame.next 0) row) listed);
      nodes = c.loop-frame.invariant.nodes;
    }

pub loop-frame-smaller-in-Continue-branch-4 : goal.loop-frame-smaller-in-Continue-branch-4
loop-frame-smaller-in-Continue-branch-4 c =
    rw c.in-Some.ensures.items (turns_pop c.args.uses.now _ c.in-Some.frame.node c.in-Some.frame.next)

pub loop-frame-preserved-in-Continue-branch-4 : goal.loop-frame-preserved-in-Continue-branch-4
loop-frame-preserved-in-Continue-branch-4 c =
    let done : length (direct c.args.uses.now c.in-Some.frame.node) ≤ c.in-Some.frame.next = omega (arith, ap length c.direct_uses-used_nodes.ensures) in
    let is = rw c.in-Some.ensures.items at c.loop-frame.invariant.walking in
    record {
      walking = rw c.in_ok-push-3.ensures.ok
          (step_list c.args.uses.now c.requires.acyclic _ _ _ c.in-Some.frame.node c.in-Some.frame.next is done (λ listed. let on = c.has-else-frame-used_nodes.ensures.1 listed in cc));
      nodes = rw c.in_ok-push-3.ensures.ok c.loop-frame.invariant.nodes;
    }

pub returns-in_err-push-3-clause-uses_first : goal.returns-in_err-push-3-clause-uses_first
returns-in_err-push-3-clause-uses_first c =
    rw c.in_err-push-3.ensures.unchanged (IsWalking-uses_first _ _ _ _ c.loop-frame.invariant.walking)

pub loop-frame-smaller : goal.loop-frame-smaller
loop-frame-smaller c =
    rw c.in-Some.ensures.items (turns_pop c.args.uses.now _ c.in-Some.frame.node c.in-Some.frame.next)

pub loop-frame-preserved : goal.loop-frame-preserved
loop-frame-preserved c =
    let done : length (direct c.args.uses.now c.in-Some.frame.node) ≤ c.in-Some.frame.next = omega (arith, ap length c.direct_uses-used_nodes.ensures) in
    let is = rw c.in-Some.ensures.items at c.loop-frame.invariant.walking in
    let listed = c.has-else-frame-used_nodes.ensures.0 c.if-not-has-2.false in
    record {
      walking = step_drop c.args.uses.now c.requires.acyclic _ _ _ c.in-Some.frame.node c.in-Some.frame.next is done listed;
      nodes = c.loop-frame.invariant.nodes;
    }
