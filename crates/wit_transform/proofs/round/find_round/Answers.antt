use Rattle.std.proofs.Common.{◌≡◌, ◌∙◌, ◌<◌, ◌≤◌, ℕ, List, [], length, get_or, replicate, map, sym, ap, subst, arith, false, true, rules}
use Rattle.wit_digraph.specs.Relation.{direct}
use Rattle.wit_transform.specs.steps.Reasons.{IsRound}
use Rattle.wit_transform.specs.declared.round.Frame.{Frame}
use Rattle.wit_transform.proofs.OnCycles.{user_there}
use Rattle.wit_transform.proofs.Searching.{end_search, found_round, none_seen, round_of_nodes, seen_read, start_search, step_into, step_left, step_past, turns_into, turns_left, turns_past}
use Rattle.wit_transform.proofs.round.find_round.Goals as goal

pub loop-frame-init : goal.loop-frame-init
loop-frame-init c =
    let made : c.in_ok-seen.seen.items ≡ replicate (length c.args.uses.now) false = search rules in
    let long : length c.in_ok-seen.seen.items ≡ length c.args.uses.now = search rules in
    let there = user_there c.args.uses.now c.args.found.user c.args.found.used c.requires.found.is_used in
    rw c.in_ok-stack.ensures.items
    (start_search c.args.uses.now c.requires.in_range c.args.found.user c.in_ok-seen.seen.items long there (none_seen c.in_ok-seen.seen.items (length c.args.uses.now) made))

pub returns-then-used-found : goal.returns-then-used-found
returns-then-used-found c =
    let row = c.direct_uses-row.ensures in
    let more : c.in-Some.frame.next < length (direct c.args.uses.now c.in-Some.frame.node) = omega (arith, ap length row) in
    let is = rw c.in-Some.ensures.items at c.loop-frame.invariant in
    let round = found_round c.args.uses.now c.requires.in_range c.args.found.user c.loop-frame.seen.items _ c.in-Some.frame _ is more (ap (λ (xs : List ℕ). get_or xs c.in-Some.frame.next 0) row) c.if-used-found.true in
    let way = c.deref.ensures.value ∙ c.in_ok-push.ensures.items in
    round_of_nodes c.args.uses.now c.deref.result.now (subst (λ (s : List Frame). IsRound c.args.uses.now (map (λ (f : Frame). f.node) s)) (sym way) round) c.nodes_of.result c.nodes_of.ensures

pub loop-frame-smaller-in-Continue-branch-4 : goal.loop-frame-smaller-in-Continue-branch-4
loop-frame-smaller-in-Continue-branch-4 c =
    let row = c.direct_uses-row.ensures in
    let more : c.in-Some.frame.next < length (direct c.args.uses.now c.in-Some.frame.node) = omega (arith, ap length row) in
    rw (c.in_ok-push-2.ensures.items, c.in_ok-push.ensures.items, c.in-Some.ensures.items)
    (turns_into c.args.uses.now c.requires.in_range c.loop-frame.seen.items c.loop-frame.invariant.long _ c.in-Some.frame _ more (ap (λ (xs : List ℕ). get_or xs c.in-Some.frame.next 0) row) (search rules))

pub loop-frame-preserved-in-Continue-branch-4 : goal.loop-frame-preserved-in-Continue-branch-4
loop-frame-preserved-in-Continue-branch-4 c =
    let row = c.direct_uses-row.ensures in
    let more : c.in-Some.frame.next < length (direct c.args.uses.now c.in-Some.frame.node) = omega (arith, ap length row) in
    let is = rw c.in-Some.ensures.items at c.loop-frame.invariant in
    rw (c.in_ok-push-2.ensures.items, c.in_ok-push.ensures.items)
    (step_into c.args.uses.now c.requires.in_range c.args.found.user c.loop-frame.seen.items _ c.in-Some.frame _ is more (ap (λ (xs : List ℕ). get_or xs c.in-Some.frame.next 0) row) c.if-used-found.false)

pub loop-frame-smaller-else-not-index : goal.loop-frame-smaller-else-not-index
loop-frame-smaller-else-not-index c =
    let more : c.in-Some.frame.next < length (direct c.args.uses.now c.in-Some.frame.node) = omega (arith, ap length c.direct_uses-row.ensures) in
    rw (c.in_ok-push.ensures.items, c.in-Some.ensures.items) (turns_past c.args.uses.now c.loop-frame.seen.items _ c.in-Some.frame more)

pub loop-frame-preserved-else-not-index : goal.loop-frame-preserved-else-not-index
loop-frame-preserved-else-not-index c =
    let row = c.direct_uses-row.ensures in
    let more : c.in-Some.frame.next < length (direct c.args.uses.now c.in-Some.frame.node) = omega (arith, ap length row) in
    let is = rw c.in-Some.ensures.items at c.loop-frame.invariant in
    let at = ap (λ (xs : List ℕ). get_or xs c.in-Some.frame.next 0) row in
    let on : c.index.result.now ≡ true = search rules in
    let seen = seen_read c.args.uses.now c.requires.in_range c.args.found.user c.loop-frame.seen.items _ c.in-Some.frame _ c.index.result.now is more at (search rules) on in
    rw c.in_ok-push.ensures.items
    (step_past c.args.uses.now c.requires.in_range c.args.found.user c.loop-frame.seen.items _ c.in-Some.frame _ is at c.if-used-found.false seen)

pub loop-frame-smaller : goal.loop-frame-smaller
loop-frame-smaller c = rw c.in-Some.ensures.items (turns_left c.args.uses.now c.loop-frame.seen.items _ c.in-Some.frame)

pub loop-frame-preserved : goal.loop-frame-preserved
loop-frame-preserved c =
    let done : length (direct c.args.uses.now c.in-Some.frame.node) ≤ c.in-Some.frame.next = omega (arith, ap length c.direct_uses-row.ensures) in
    let is = rw c.in-Some.ensures.items at c.loop-frame.invariant in
    step_left c.args.uses.now c.requires.in_range c.args.found.user c.loop-frame.seen.items _ c.in-Some.frame is done

pub unreachable-requires : goal.unreachable-requires
unreachable-requires c =
    let none : c.loop-frame.stack.items ≡ [] = search rules in
    end_search c.args.uses.now c.requires.in_range c.args.found.user c.loop-frame.seen.items c.loop-frame.stack.items c.args.found.used c.loop-frame.invariant none c.requires.found
