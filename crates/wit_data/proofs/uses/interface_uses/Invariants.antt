use Rattle.std.proofs.Common.{ℕ, ◌≡◌, ◌++◌, List, filter_map}
use Rattle.wit_data.specs.Uses.{interface_uses, type_interface_dep}
use Rattle.wit_data.proofs.uses.interface_uses.Given as goal

-- the answers so far, and those that are left
abbrev pub invariant-loop-id : goal.invariant-loop-id
invariant-loop-id l =
    l.uses ++ filter_map (λ (e : List ℕ × ℕ). type_interface_dep l.types e.1) l.id-iterator
    ≡ interface_uses l.types l.interface
