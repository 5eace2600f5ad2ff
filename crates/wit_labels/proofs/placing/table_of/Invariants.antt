use Rattle.std.proofs.Common.{◌≡◌, ◌++◌}
use Rattle.std.specs.Vec.Iter.{into_iter_items}
use Rattle.wit_labels.proofs.placing.table_of.Given as goal

-- those so far, and those to come
abbrev pub invariant-loop-key : goal.invariant-loop-key
invariant-loop-key l = l.table ++ into_iter_items l.key-iterator ≡ l.fn.items
