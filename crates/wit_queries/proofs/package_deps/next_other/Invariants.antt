use Rattle.std.proofs.Common.{◌≡◌}
use Rattle.wit_queries.specs.RemainingUses.{other_packages}
use Rattle.wit_queries.proofs.package_deps.next_other.Given as goal

-- what was passed over is of the package itself
abbrev pub invariant-loop-interface : goal.invariant-loop-interface
invariant-loop-interface l =
    (goal.iterator-loop-interface).can_next l.named
    × (goal.iterator-loop-interface).is_finite l.named
    × (other_packages l.interfaces l.«package» l.initial.named
    ≡ other_packages l.interfaces l.«package» l.named)
