use Rattle.std.proofs.Common.{◌≡◌, ℕ, ◌<◌, bit_and, get_or}
use Rattle.wit_elaboration.proofs.rows.meets.Given as goal

-- none so far
abbrev pub invariant-loop-i : goal.invariant-loop-i
invariant-loop-i l = (k : ℕ) → k < l.i → bit_and (get_or l.one k 0) (get_or l.other k 0) ≡ 0
