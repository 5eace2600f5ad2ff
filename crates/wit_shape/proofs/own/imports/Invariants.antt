use Rattle.wit_data.specs.facts.EachFacts.{EachBelow}
use Rattle.wit_data.specs.declared.world.World.{World}
use Rattle.wit_data.specs.Entries.{EntriesUseOwn}
use Rattle.wit_shape.proofs.own.imports.Given as goal

-- it holds of the first ones
abbrev pub invariant-loop-index : goal.invariant-loop-index
invariant-loop-index l = EachBelow l.index (λ w (world : World). EntriesUseOwn l.types w world.imports) l.worlds
