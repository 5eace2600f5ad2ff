use Rattle.std.proofs.Common.{ℕ, Contains, take}
use Rattle.wit_digraph.specs.steps.Rows.{HasBit}
use Rattle.wit_elaboration.proofs.passes.has_use.Given as goal

-- none so far
abbrev pub invariant-loop-used : goal.invariant-loop-used
invariant-loop-used l = (d : ℕ) → Contains (take l.used-index l.used-items) d → HasBit l.row d → ⊥
