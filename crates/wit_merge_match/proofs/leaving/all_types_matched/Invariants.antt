use Rattle.std.proofs.Common.{◌≡◌, ℕ, List, filter}
use Rattle.wit_merge_match.specs.steps.Matched.{moves}
use Rattle.wit_merge_match.proofs.leaving.all_types_matched.Given as goal

-- of those that move all are among those to come
abbrev pub invariant-loop-id : goal.invariant-loop-id
invariant-loop-id l = filter (λ (e : List ℕ × ℕ). moves l.found e.1) l.names ≡ filter (λ (e : List ℕ × ℕ). moves l.found e.1) l.id-iterator
