use Rattle.std.proofs.Common.{◌≡◌, ◌++◌, ◌≤◌, length}
use Rattle.std.specs.Vec.Iter.{into_iter_items}
use Rattle.indexmap.specs.IndexMap.{spare}
use Rattle.wit_values.proofs.pairs.fill.Given as goal

-- those so far and those to come, for which there is room
abbrev pub invariant-loop-key : goal.invariant-loop-key
invariant-loop-key g l = record {
  pairs : l.map.entries ++ into_iter_items l.key-iterator ≡ l.fn.pairs.items;
  room : length (into_iter_items l.key-iterator) ≤ spare l.map;
}
