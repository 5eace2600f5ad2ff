use Rattle.std.proofs.Common.{◌≡◌, take}
use Rattle.wit_values.proofs.items.ItemsTryClone.try_clone.Given as goal

-- the copies so far
abbrev pub invariant-loop-item : goal.invariant-loop-item
invariant-loop-item g l = l.inner.items ≡ take l.item-index l.item-items
