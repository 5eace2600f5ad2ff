use Rattle.wit_data.specs.Shape.{IsShaped}
use Rattle.wit_data.specs.facts.EachFacts.{EachBelow}
use Rattle.wit_groups.proofs.groups.nested_shape_fault.Given as goal

-- the first ones have it
abbrev pub invariant-loop-package : goal.invariant-loop-package
invariant-loop-package l = EachBelow l.package-index (λ _. IsShaped) l.nested
