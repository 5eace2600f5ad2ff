use Rattle.std.proofs.Common.{ℕ, Contains, take}
use Rattle.wit_digraph.specs.Relation.{direct}
use Rattle.wit_elaboration.specs.steps.Closures.{HaveCommonBit}
use Rattle.wit_elaboration.proofs.closure_rows.ClosureRows.may_need.Given as goal

-- none so far
abbrev pub invariant-loop-used : goal.invariant-loop-used
invariant-loop-used l =
    (d : ℕ) → Contains (take l.used-index l.used-items) d
    → ((Contains l.exported.order d → ⊥) × HaveCommonBit (direct l.self.rows d) l.columns) → ⊥
