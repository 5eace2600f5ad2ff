use Rattle.std.proofs.Common.{◌≡◌, ◌++◌, take, length}
use Rattle.wit_transform.proofs.new_lists.add_copies.Given as goal

-- the copies so far
abbrev pub invariant-loop-key : goal.invariant-loop-key
invariant-loop-key l = l.entries ≡ l.initial.entries ++ take (length l.yielded) l.more
