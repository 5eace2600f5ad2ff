use Rattle.std.proofs.Common.{◌≡◌, ◌≤◌, ◌-◌, drop, length}
use Rattle.wit_text.specs.Front.{comment_len, more}
use Rattle.wit_text.proofs.front.comment_len.Given as goal

-- what is read so far, and what follows
abbrev pub invariant-loop-len : goal.invariant-loop-len
invariant-loop-len l = record {
  within : l.len ≤ length l.bytes;
  open_before : l.inner ≤ l.len;
  left : more l.len (comment_len l.inner (drop l.len l.bytes)) ≡ comment_len 0 l.bytes;
}

abbrev pub decreases-loop-len : goal.decreases-loop-len
decreases-loop-len l = length l.bytes - l.len
