use Rattle.std.proofs.Common.{◌≡◌, ◌++◌}
use Rattle.std.specs.Vec.Iter.{into_iter_items}
use Rattle.wit_link_include.proofs.JoinSteps.{IsJoining}
use Rattle.wit_link_include.proofs.joining.join.Given as goal

-- the entries so far are joined, and those to come
abbrev pub invariant-loop-key : goal.invariant-loop-key
invariant-loop-key l = record {
  joining : IsJoining l.other l.fn.current l.yielded l.entries;
  left : l.yielded ++ into_iter_items l.key-iterator ≡ l.fn.brought;
}
