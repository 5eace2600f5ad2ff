use Rattle.std.proofs.Common.{◌≡◌, drop, map}
use Rattle.wit_data.specs.declared.unresolved.UnresolvedPackage.{UnresolvedPackage}
use Rattle.wit_ways.specs.Coming.{coming_packages, joined}
use Rattle.wit_ways.proofs.coming.Coming.add_group.Given as goal

-- with those that are left it is all
abbrev pub invariant-loop-package : goal.invariant-loop-package
invariant-loop-package l =
    joined l.self (coming_packages l.features (map (λ (q : UnresolvedPackage). (l.offset, q)) (drop l.package-index l.package-items)))
    ≡ joined l.initial.self (coming_packages l.features (map (λ (q : UnresolvedPackage). (l.offset, q)) l.group.nested))
