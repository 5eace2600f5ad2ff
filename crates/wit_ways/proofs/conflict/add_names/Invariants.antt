use Rattle.std.proofs.Common.{◌≡◌, drop, fold}
use Rattle.wit_ways.specs.Conflicts.{with_name}
use Rattle.wit_ways.proofs.conflict.add_names.Given as goal

-- the names so far, and those that are left, are all
abbrev pub invariant-loop-index : goal.invariant-loop-index
invariant-loop-index l = fold with_name l.names (drop l.index l.more) ≡ fold with_name l.initial.names l.more
