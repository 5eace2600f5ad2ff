use Rattle.std.proofs.Common.{◌≤◌, length}
use Rattle.wit_data.specs.facts.EachFacts.{EachBelow}
use Rattle.wit_data.specs.Foreign.{foreign_worlds}
use Rattle.wit_data.specs.declared.world.World.{World}
use Rattle.wit_link_lookup.specs.steps.FeatureSteps.{IsMet}
use Rattle.wit_link_lookup.proofs.checker.Checker.check_worlds.Given as goal

-- the first ones of the package's own are met
abbrev pub invariant-loop-index : goal.invariant-loop-index
invariant-loop-index l = EachBelow l.index (λ w (world : World). length (foreign_worlds l.self.addition.unresolved.now.foreign_deps) ≤ w → IsMet l.self world.stability) l.self.addition.unresolved.now.worlds
