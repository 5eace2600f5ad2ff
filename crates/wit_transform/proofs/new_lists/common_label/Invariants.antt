use Rattle.std.proofs.Common.{ℕ, List, Contains, take, length}
use Rattle.std.specs.Map.{keys_of}
use Rattle.wit_data.specs.declared.world.WorldKey.TheVariants as key
use Rattle.wit_transform.proofs.new_lists.common_label.Given as goal

-- no label so far is in both
abbrev pub invariant-loop-key : goal.invariant-loop-key
invariant-loop-key l = (label : List ℕ) → Contains (keys_of (take (length l.yielded) l.exports)) (key.Name label) → Contains (keys_of l.entries) (key.Name label) → ⊥
