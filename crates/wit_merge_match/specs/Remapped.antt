-- What a merge answers: where the things of the incoming graph are in the merged one.
use Rattle.std.specs.Prelude.{length, map, Some}
use Rattle.std.specs.List.{range_with_len}
use Rattle.wit_remap.specs.declared.remap.Remap.{Remap}
use Rattle.wit_merge_spec.specs.Matches.{GraphMerge}
use Rattle.wit_merge_spec.specs.Merged.{merged_interface, merged_package, merged_type, merged_world}

-- for each type, interface, world and package of the incoming graph, by its id, its id in the merged graph. Each is
-- there; a remap also has room for things that have none
abbrev pub merge_remap : GraphMerge → Remap
merge_remap m = record {
  types = map (λ t. Some (merged_type m t)) (range_with_len 0 (length m.other.types));
  interfaces =
      map (λ i. Some (merged_interface m i)) (range_with_len 0 (length m.other.interfaces));
  worlds = map (λ w. Some (merged_world m w)) (range_with_len 0 (length m.other.worlds));
  packages = map (merged_package m) (range_with_len 0 (length m.other.packages));
}
