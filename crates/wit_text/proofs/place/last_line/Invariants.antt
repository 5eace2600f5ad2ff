use Rattle.std.proofs.Common.{◌≡◌, ◌<◌, ◌≤◌, ◌==◌, ℕ, true, not, get_or, length}
use Rattle.wit_text.proofs.place.last_line.Given as goal

-- no line feed from here on
abbrev pub invariant-loop-start : goal.invariant-loop-start
invariant-loop-start l = record {
  within : l.start ≤ length l.bytes;
  line : (k : ℕ) → l.start ≤ k → k < length l.bytes → not (get_or l.bytes k 0 == 10) ≡ true;
}

abbrev pub decreases-loop-start : goal.decreases-loop-start
decreases-loop-start l = l.start
