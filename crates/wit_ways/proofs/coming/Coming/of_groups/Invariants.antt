use Rattle.std.proofs.Common.{◌≡◌, ◌∷◌, drop}
use Rattle.wit_ways.specs.Coming.{coming_packages, joined, placed_packages}
use Rattle.wit_ways.proofs.coming.Coming.of_groups.Given as goal

-- with those that are left it is all
abbrev pub invariant-loop-group : goal.invariant-loop-group
invariant-loop-group l =
    joined l.coming (coming_packages l.features (placed_packages l.end (drop l.group-index l.deps))) ≡ coming_packages l.features (placed_packages l.fn.offset (l.main ∷ l.deps))
