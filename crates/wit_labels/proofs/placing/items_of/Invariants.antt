use Rattle.std.proofs.Common.{◌≡◌, ◌++◌}
use Rattle.wit_labels.proofs.placing.items_of.Given as goal

-- those so far, and those to come
abbrev pub invariant-loop-key : goal.invariant-loop-key
invariant-loop-key l = l.items ++ l.key-iterator ≡ l.fn.entries
