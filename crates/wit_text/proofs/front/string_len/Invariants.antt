use Rattle.std.proofs.Common.{◌≡◌, drop}
use Rattle.wit_text.specs.Front.{more, string_len}
use Rattle.wit_text.proofs.front.string_len.Given as goal

-- what is read so far, and what follows
abbrev pub invariant-loop-index : goal.invariant-loop-index
invariant-loop-index l = more l.index (string_len (drop l.index l.bytes)) ≡ string_len l.bytes
