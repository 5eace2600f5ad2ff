use Rattle.std.proofs.Common.{◌≡◌, ◌++◌, map}
use Rattle.std.specs.List.{AllByRecursion}
use Rattle.std.specs.Vec.Iter.{into_iter_items}
use Rattle.wit_data.specs.Shape.{IsGroupShaped}
use Rattle.wit_groups.specs.Files.{source_map_of}
use Rattle.wit_groups.proofs.groups.read_each.Given as goal

-- those so far have their shape, and their files with those to come are all
abbrev pub invariant-loop-source_map : goal.invariant-loop-source_map
invariant-loop-source_map l =
    AllByRecursion IsGroupShaped l.groups
    × (map source_map_of l.groups ++ into_iter_items l.source_map-iterator ≡ l.fn.maps)
