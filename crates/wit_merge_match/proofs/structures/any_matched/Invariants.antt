use Rattle.std.proofs.Common.{◌≡◌, ◌<◌, ℕ, None, get_or}
use Rattle.wit_merge_match.proofs.structures.any_matched.Given as goal

-- the first ones aren't
abbrev pub invariant-loop-index : goal.invariant-loop-index
invariant-loop-index g l = (k : ℕ) → k < l.index → get_or l.found k None ≡ None
