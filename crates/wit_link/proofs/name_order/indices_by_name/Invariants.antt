use Rattle.std.proofs.Common.{◌≡◌, take}
use Rattle.wit_link.specs.GroupOrder.{names_of}
use Rattle.wit_link.specs.steps.GroupOrderSteps.{indices_of_names}
use Rattle.wit_link.proofs.name_order.indices_by_name.Given as goal

-- the places so far
abbrev pub invariant-loop-place : goal.invariant-loop-place
invariant-loop-place l = l.places ≡ take l.place (indices_of_names (names_of l.unresolved))
