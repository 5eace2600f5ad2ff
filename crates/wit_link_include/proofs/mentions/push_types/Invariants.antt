use Rattle.std.proofs.Common.{◌≡◌, ◌++◌, List, ℕ, map}
use Rattle.wit_link_include.proofs.mentions.push_types.Given as goal

-- what has been added, and what is left
abbrev pub invariant-loop-id : goal.invariant-loop-id
invariant-loop-id l = l.ids ++ map (λ (e : List ℕ × ℕ). e.1) l.id-iterator ≡ l.fn.ids ++ map (λ (e : List ℕ × ℕ). e.1) l.interface.types
