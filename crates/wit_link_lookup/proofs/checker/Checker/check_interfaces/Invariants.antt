use Rattle.std.proofs.Common.{◌≤◌, length}
use Rattle.wit_data.specs.facts.EachFacts.{EachBelow}
use Rattle.wit_data.specs.Foreign.{foreign_interfaces}
use Rattle.wit_data.specs.declared.interface.Interface.{Interface}
use Rattle.wit_link_lookup.specs.steps.FeatureSteps.{IsMet}
use Rattle.wit_link_lookup.proofs.checker.Checker.check_interfaces.Given as goal

-- the first ones of the package's own are met
abbrev pub invariant-loop-index : goal.invariant-loop-index
invariant-loop-index l = EachBelow l.index (λ i (interface : Interface). length (foreign_interfaces l.self.addition.unresolved.now.foreign_deps) ≤ i → IsMet l.self interface.stability) l.self.addition.unresolved.now.interfaces
