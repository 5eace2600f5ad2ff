use Rattle.std.proofs.Common.{◌≡◌, ◌++◌, Some, map}
use Rattle.std.specs.Vec.Iter.{into_iter_items}
use Rattle.wit_digraph.proofs.arrange.slots_of.Given as goal

-- those so far, and those to come
abbrev pub invariant-loop-item : goal.invariant-loop-item
invariant-loop-item g l =
    l.slots ++ map Some (into_iter_items l.item-iterator) ≡ map Some l.fn.items
