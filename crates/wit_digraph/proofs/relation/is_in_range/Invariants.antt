use Rattle.std.proofs.Common.{◌<◌, ℕ, length, All}
use Rattle.wit_digraph.specs.Relation.{direct}
use Rattle.wit_digraph.proofs.relation.is_in_range.Given as goal

abbrev pub invariant-loop-node : goal.invariant-loop-node
invariant-loop-node l = (i : ℕ) → i < l.node → All (λ j. j < length l.uses) (direct l.uses i)
