use Rattle.std.proofs.Common.{◌≡◌, ℕ, List, filter_map}
use Rattle.wit_data.specs.Uses.{type_interface_dep}
use Rattle.wit_queries.proofs.next.next_used.Given as goal

-- what was passed over needs none
abbrev pub invariant-loop-id : goal.invariant-loop-id
invariant-loop-id l =
    (goal.iterator-loop-id).can_next l.ids × (goal.iterator-loop-id).is_finite l.ids
    × (filter_map (λ (e : List ℕ × ℕ). type_interface_dep l.types e.1) l.initial.ids
    ≡ filter_map (λ (e : List ℕ × ℕ). type_interface_dep l.types e.1) l.ids)
