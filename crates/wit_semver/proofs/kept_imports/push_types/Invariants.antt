use Rattle.std.proofs.Common.{◌≡◌, ◌++◌, ℕ, List, map, take, length}
use Rattle.wit_semver.proofs.kept_imports.push_types.Given as goal

abbrev pub invariant-loop-id : goal.invariant-loop-id
invariant-loop-id l = l.ids ≡ l.fn.ids ++ map (λ (e : List ℕ × ℕ). e.1) (take (length l.yielded) l.types)
