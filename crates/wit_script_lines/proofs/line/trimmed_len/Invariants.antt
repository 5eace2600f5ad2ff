use Rattle.std.proofs.Common.{◌≡◌, ◌<◌, ◌≤◌, ◌==◌, ℕ, true, get_or, length}
use Rattle.wit_script_lines.proofs.line.trimmed_len.Given as goal

-- spaces from the end on
abbrev pub invariant-loop-end : goal.invariant-loop-end
invariant-loop-end l = record {
  within : l.end ≤ length l.bytes;
  spaces : (k : ℕ) → l.end ≤ k → k < length l.bytes → (get_or l.bytes k 0 == 32) ≡ true;
}

abbrev pub decreases-loop-end : goal.decreases-loop-end
decreases-loop-end l = l.end
