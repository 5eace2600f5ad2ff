use Rattle.std.proofs.Common.{◌≡◌, ◌<◌, ℕ}
use Rattle.wit_merge_match.specs.steps.Kinds.{name_at}
use Rattle.wit_merge_match.proofs.kinds.have_same_parts.Given as goal

-- the first parts have the same names
abbrev pub invariant-loop-index : goal.invariant-loop-index
invariant-loop-index l = (i : ℕ) → i < l.index → name_at l.from i ≡ name_at l.into i
