use Rattle.std.proofs.Common.{◌≡◌, ◌++◌}
use Rattle.wit_values.specs.NameSet.{texts_of}
use Rattle.wit_values.proofs.name_set.NameSetTryClone.try_clone.Given as goal

-- the copies so far, and the texts that are left
abbrev pub invariant-loop-text : goal.invariant-loop-text
invariant-loop-text l = l.copy ++ texts_of l.text-iterator ≡ l.self
