use Rattle.std.proofs.Common.{◌≡◌, ◌≤◌, ap, arith, length, string_bytes}
use Rattle.std.specs.List.{flat_map}
use Rattle.wit_merge_match.specs.steps.Differing.{merging_of}
use Rattle.wit_merge_match.specs.steps.Structures.{package_interface_pairs, package_world_pairs}
use Rattle.wit_merge_match.proofs.Mapped.{stands}
use Rattle.wit_merge_match.proofs.PairSteps.{first_back, first_front, first_next, none_all, none_append, none_next, none_of_none}
use Rattle.wit_merge_match.proofs.matched_graphs.MatchedGraphs.packages_differ.Goals as goal

pub loop-id-init : goal.loop-id-init
loop-id-init c = record { of = c.requires.of; none = none_of_none (merging_of c.args.self.now) }

pub returns-in-Some-clause-some : goal.returns-in-Some-clause-some
returns-in-Some-clause-some c =
    let m = merging_of c.args.self.now in
    let order = c.args.order.now in
    first_front m (flat_map (package_interface_pairs m) order) (flat_map (package_world_pairs m) order) _
    (first_next m (package_interface_pairs m) order c.loop-id.id-index c.id-item.result (stands order c.as_slice-id-items.result.now c.loop-id.id-index c.id-item.result c.as_slice-id-items.ensures c.loop-id-test.true c.id-item.is) (string_bytes c.in-Some.message) c.loop-id.invariant.none (rw c.in-Some.is at c.in_ok-message.ensures.some))

pub loop-id-preserved : goal.loop-id-preserved
loop-id-preserved c =
    let m = merging_of c.args.self.now in
    let order = c.args.order.now in
    record {
      of = c.package_interfaces_differ.ensures.of;
      none = none_next m (package_interface_pairs m) order c.loop-id.id-index c.id-item.result (stands order c.as_slice-id-items.result.now c.loop-id.id-index c.id-item.result c.as_slice-id-items.ensures c.loop-id-test.true c.id-item.is) c.loop-id.invariant.none (rw c.in_default.is at c.in_ok-message.ensures.none);
    }

pub loop-id-2-init : goal.loop-id-2-init
loop-id-2-init c =
    let m = merging_of c.args.self.now in
    let order = c.args.order.now in
    let long : length c.as_slice-id-items.result.now ≡ length order = ap length c.as_slice-id-items.ensures in
    let past : length order ≤ c.loop-id.id-index = omega (arith, long, c.loop-id-test.false) in
    record {
      of = c.loop-id.invariant.of;
      interfaces = none_all m (package_interface_pairs m) order c.loop-id.id-index past c.loop-id.invariant.none;
      none = none_of_none m;
    }

pub returns-in-Some-2-clause-some : goal.returns-in-Some-2-clause-some
returns-in-Some-2-clause-some c =
    let m = merging_of c.args.self.now in
    let order = c.args.order.now in
    first_back m (flat_map (package_interface_pairs m) order) (flat_map (package_world_pairs m) order) _ c.loop-id-2.invariant.interfaces
    (first_next m (package_world_pairs m) order c.loop-id-2.id-index c.id-item-in-loop-id-2.result (stands order c.as_slice-id-items-2.result.now c.loop-id-2.id-index c.id-item-in-loop-id-2.result c.as_slice-id-items-2.ensures c.loop-id-2-test.true c.id-item-in-loop-id-2.is) (string_bytes c.in-Some-2.message) c.loop-id-2.invariant.none (rw c.in-Some-2.is at c.in_ok-message-2.ensures.some))

pub loop-id-2-preserved : goal.loop-id-2-preserved
loop-id-2-preserved c =
    let m = merging_of c.args.self.now in
    let order = c.args.order.now in
    record {
      of = c.package_worlds_differ.ensures.of;
      interfaces = c.loop-id-2.invariant.interfaces;
      none = none_next m (package_world_pairs m) order c.loop-id-2.id-index c.id-item-in-loop-id-2.result (stands order c.as_slice-id-items-2.result.now c.loop-id-2.id-index c.id-item-in-loop-id-2.result c.as_slice-id-items-2.ensures c.loop-id-2-test.true c.id-item-in-loop-id-2.is) c.loop-id-2.invariant.none (rw c.in_default-2.is at c.in_ok-message-2.ensures.none);
    }

pub returns-clause-none : goal.returns-clause-none
returns-clause-none c =
    let m = merging_of c.args.self.now in
    let order = c.args.order.now in
    let long : length c.as_slice-id-items-2.result.now ≡ length order = ap length c.as_slice-id-items-2.ensures in
    let past : length order ≤ c.loop-id-2.id-index = omega (arith, long, c.loop-id-2-test.false) in
    none_append m (flat_map (package_interface_pairs m) order) (flat_map (package_world_pairs m) order) c.loop-id-2.invariant.interfaces
    (none_all m (package_world_pairs m) order c.loop-id-2.id-index past c.loop-id-2.invariant.none)
