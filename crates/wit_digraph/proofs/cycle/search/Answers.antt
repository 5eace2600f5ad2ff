use Rattle.std.proofs.Common.{◌≡◌, ◌<◌, ◌≤◌, ℕ, List, length, get_or, ap, arith, true, rules}
use Rattle.wit_digraph.specs.Relation.{direct}
use Rattle.wit_digraph.proofs.SearchSteps.{use_on_cycle, start_search, step_past, step_into, step_done, turns_past, turns_into, turns_done}
use Rattle.wit_digraph.proofs.cycle.search.Goals as goal

pub loop-frame-init : goal.loop-frame-init
loop-frame-init c =
    rw c.in_ok-stack.ensures.items
    (start_search c.args.uses.now c.args.marks.now c.requires.long c.args.root c.requires.root c.requires.settled (λ done. let equal : c.eq.result ≡ true = rw done at c.eq.ensures in cc))

pub returns-in-Open-clause-some : goal.returns-in-Open-clause-some
returns-in-Open-clause-some c =
    let row = c.direct_uses-row.ensures in
    let more : c.in-Some.frame.next < length (direct c.args.uses.now c.in-Some.frame.node) = omega (arith, ap length row) in
    let is = rw c.in-Some.ensures.items at c.loop-frame.invariant in
    use_on_cycle _ _ _ _ _ c.in-Some.frame _ is more (ap (λ (xs : List ℕ). get_or xs c.in-Some.frame.next 0) row) (search rules)

pub loop-frame-smaller-in-Continue-branch-3 : goal.loop-frame-smaller-in-Continue-branch-3
loop-frame-smaller-in-Continue-branch-3 c =
    let row = c.direct_uses-row.ensures in
    let more : c.in-Some.frame.next < length (direct c.args.uses.now c.in-Some.frame.node) = omega (arith, ap length row) in
    rw (c.in_ok-push-in-Unseen.ensures.items, c.in_ok-push.ensures.items, c.in-Some.ensures.items)
    (turns_into c.args.uses.now c.requires.in_range c.loop-frame.marks c.loop-frame.invariant.long _ c.in-Some.frame _ more (ap (λ (xs : List ℕ). get_or xs c.in-Some.frame.next 0) row) (search rules))

pub loop-frame-preserved-in-Continue-branch-3 : goal.loop-frame-preserved-in-Continue-branch-3
loop-frame-preserved-in-Continue-branch-3 c =
    let row = c.direct_uses-row.ensures in
    let more : c.in-Some.frame.next < length (direct c.args.uses.now c.in-Some.frame.node) = omega (arith, ap length row) in
    let is = rw c.in-Some.ensures.items at c.loop-frame.invariant in
    rw (c.in_ok-push-in-Unseen.ensures.items, c.in_ok-push.ensures.items)
    (step_into c.args.uses.now c.requires.in_range _ c.loop-frame.marks _ _ c.in-Some.frame _ is more (ap (λ (xs : List ℕ). get_or xs c.in-Some.frame.next 0) row) (search rules))

pub loop-frame-smaller-in-Done : goal.loop-frame-smaller-in-Done
loop-frame-smaller-in-Done c =
    let more : c.in-Some.frame.next < length (direct c.args.uses.now c.in-Some.frame.node) = omega (arith, ap length c.direct_uses-row.ensures) in
    rw (c.in_ok-push.ensures.items, c.in-Some.ensures.items) (turns_past c.args.uses.now c.loop-frame.marks _ c.in-Some.frame more)

pub loop-frame-preserved-in-Done : goal.loop-frame-preserved-in-Done
loop-frame-preserved-in-Done c =
    let row = c.direct_uses-row.ensures in
    let is = rw c.in-Some.ensures.items at c.loop-frame.invariant in
    rw c.in_ok-push.ensures.items
    (step_past c.args.uses.now _ c.loop-frame.marks _ _ c.in-Some.frame _ is (ap (λ (xs : List ℕ). get_or xs c.in-Some.frame.next 0) row) (search rules))

pub loop-frame-smaller : goal.loop-frame-smaller
loop-frame-smaller c = rw c.in-Some.ensures.items (turns_done c.args.uses.now c.loop-frame.marks _ c.in-Some.frame)

pub loop-frame-preserved : goal.loop-frame-preserved
loop-frame-preserved c =
    let done : length (direct c.args.uses.now c.in-Some.frame.node) ≤ c.in-Some.frame.next = omega (arith, ap length c.direct_uses-row.ensures) in
    let is = rw c.in-Some.ensures.items at c.loop-frame.invariant in
    step_done c.args.uses.now _ c.loop-frame.marks _ _ c.in-Some.frame is done
