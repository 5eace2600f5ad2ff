use Rattle.std.proofs.Common.{◌≡◌, ◌+◌, drop}
use Rattle.wit_text.specs.Front.{blank_len}
use Rattle.wit_text.proofs.front.blank_len.Given as goal

-- blanks so far, and those that follow
abbrev pub invariant-loop-index : goal.invariant-loop-index
invariant-loop-index l = l.index + blank_len (drop l.index l.bytes) ≡ blank_len l.bytes
