use Rattle.std.proofs.Common.{◌≡◌, ℕ, ◌<◌, length, get_or}
use Rattle.wit_elaboration.proofs.rows.clear.Given as goal

-- the first words are zeros
abbrev pub invariant-loop-i : goal.invariant-loop-i
invariant-loop-i l = record {
  long : length l.row ≡ length l.fn.row;
  zeros : (k : ℕ) → k < l.i → get_or l.row k 0 ≡ 0;
}
