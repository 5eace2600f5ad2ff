use Rattle.std.proofs.Common.{◌≡◌, ◌++◌}
use Rattle.wit_data.specs.Foreign.{foreign_worlds}
use Rattle.wit_data.proofs.foreign.foreign_worlds.Given as goal

-- those so far, and those of the packages that are left
abbrev pub invariant-loop-named : goal.invariant-loop-named
invariant-loop-named l = l.ids ++ foreign_worlds l.named-iterator ≡ foreign_worlds l.deps
