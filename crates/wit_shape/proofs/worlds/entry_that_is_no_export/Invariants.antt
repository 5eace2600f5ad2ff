use Rattle.wit_data.specs.facts.EachFacts.{EachBelow}
use Rattle.wit_data.specs.Entries.{IsExport}
use Rattle.wit_data.specs.Entries.{Entry}
use Rattle.wit_shape.proofs.worlds.entry_that_is_no_export.Given as goal

-- it holds of the first ones
abbrev pub invariant-loop-index : goal.invariant-loop-index
invariant-loop-index l = EachBelow l.index (λ _ (e : Entry). IsExport l.interfaces e.0 e.1) l.world.exports
