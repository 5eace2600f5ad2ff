use Rattle.std.proofs.Common.{take}
use Rattle.std.specs.List.{flat_map}
use Rattle.wit_merge_match.specs.steps.Differing.{merging_of}
use Rattle.wit_merge_match.specs.steps.Structures.{IsOf, NoneDiffer, package_interface_pairs, package_world_pairs}
use Rattle.wit_merge_match.proofs.matched_graphs.MatchedGraphs.packages_differ.Given as goal

-- none of the interfaces of the first packages differ
abbrev pub invariant-loop-id : goal.invariant-loop-id
invariant-loop-id l = record {
  of : IsOf l.self l.comparison;
  none : NoneDiffer (merging_of l.self) (flat_map (package_interface_pairs (merging_of l.self)) (take l.id-index l.order));
}

-- none of all interfaces do, and none of the worlds of the first packages
abbrev pub invariant-loop-id-2 : goal.invariant-loop-id-2
invariant-loop-id-2 l = record {
  of : IsOf l.self l.comparison;
  interfaces : NoneDiffer (merging_of l.self) (flat_map (package_interface_pairs (merging_of l.self)) l.order);
  none : NoneDiffer (merging_of l.self) (flat_map (package_world_pairs (merging_of l.self)) (take l.id-index l.order));
}
