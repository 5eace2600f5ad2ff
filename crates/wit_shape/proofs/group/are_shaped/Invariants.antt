use Rattle.wit_data.specs.facts.EachFacts.{EachBelow}
use Rattle.wit_data.specs.Shape.{IsShaped}
use Rattle.wit_shape.proofs.group.are_shaped.Given as goal

-- the first ones are
abbrev pub invariant-loop-package : goal.invariant-loop-package
invariant-loop-package l = EachBelow l.package-index (λ _ p. IsShaped p) l.packages
