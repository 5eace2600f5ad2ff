use Rattle.std.proofs.Common.{◌≡◌, ◌+◌, drop}
use Rattle.std.specs.Char.{is_ascii_digit}
use Rattle.std.specs.List.{prefix_len}
use Rattle.wit_text.proofs.front.digits_len.Given as goal

-- digits so far, and those that follow
abbrev pub invariant-loop-index : goal.invariant-loop-index
invariant-loop-index l = l.index + prefix_len is_ascii_digit (drop l.index l.bytes) ≡ prefix_len is_ascii_digit l.bytes
