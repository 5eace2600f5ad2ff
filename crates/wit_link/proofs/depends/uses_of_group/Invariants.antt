use Rattle.std.proofs.Common.{◌≡◌, map, take}
use Rattle.wit_link.specs.GroupOrder.{Unresolved, names_of}
use Rattle.wit_link.proofs.depends.uses_of_group.Given as goal
use Rattle.wit_link.specs.steps.Parts.{group_deps}

-- the rows so far
abbrev pub invariant-loop-entry : goal.invariant-loop-entry
invariant-loop-entry l = l.uses ≡ map (λ (p : Unresolved). group_deps (names_of l.unresolved) p.0) (take l.entry-index l.unresolved)
