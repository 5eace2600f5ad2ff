use Rattle.std.proofs.Common.{◌≡◌, ◌<◌, ◌==◌, ℕ, true, get_or}
use Rattle.wit_script_lines.proofs.line.leading_spaces.Given as goal

-- spaces so far
abbrev pub invariant-loop-index : goal.invariant-loop-index
invariant-loop-index l = (k : ℕ) → k < l.index → (get_or l.byte-items k 0 == 32) ≡ true
