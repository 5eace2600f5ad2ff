use Rattle.std.proofs.Common.{◌≡◌, [], drop, fold}
use Rattle.wit_ways.specs.Conflicts.{with_name}
use Rattle.wit_ways.proofs.conflict.names_of.Given as goal

-- the names so far, and those that are left, are all
abbrev pub invariant-loop-name : goal.invariant-loop-name
invariant-loop-name l = fold with_name l.set (drop l.name-index l.names) ≡ fold with_name [] l.names
