use Rattle.wit_elaboration.specs.Valid.{IsOfPackage}
use Rattle.wit_data.specs.Entries.{Entry}
use Rattle.wit_data.specs.facts.YieldedFacts.{LeftDecide}
use Rattle.wit_validity.proofs.world_homes.are_of_package.Given as goal

-- those that are left decide
abbrev pub invariant-loop-item : goal.invariant-loop-item
invariant-loop-item l = LeftDecide (λ (e : Entry). IsOfPackage l.interfaces l.home e.1) l.item-iterator l.entries
