use Rattle.std.proofs.Common.{◌≡◌, ◌++◌}
use Rattle.wit_values.proofs.names.NamesTryClone.try_clone.Given as goal

-- the copies so far, and the pairs that are left
abbrev pub invariant-loop-key : goal.invariant-loop-key
invariant-loop-key g l = l.copy ++ l.key-iterator ≡ l.self
