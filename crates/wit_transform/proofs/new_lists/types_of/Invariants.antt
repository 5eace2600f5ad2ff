use Rattle.std.proofs.Common.{◌≡◌, take, length}
use Rattle.wit_transform.specs.Transformed.{type_entries}
use Rattle.wit_transform.proofs.new_lists.types_of.Given as goal

-- the types so far
abbrev pub invariant-loop-key : goal.invariant-loop-key
invariant-loop-key l = l.types ≡ type_entries (take (length l.yielded) l.entries)
