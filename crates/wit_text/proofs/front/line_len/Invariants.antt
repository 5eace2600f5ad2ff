use Rattle.std.proofs.Common.{◌≡◌, ◌+◌, drop}
use Rattle.wit_text.specs.Front.{line_len}
use Rattle.wit_text.proofs.front.line_len.Given as goal

-- the line so far, and what follows
abbrev pub invariant-loop-index : goal.invariant-loop-index
invariant-loop-index l = l.index + line_len (drop l.index l.bytes) ≡ line_len l.bytes
