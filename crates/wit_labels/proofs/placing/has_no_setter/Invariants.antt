use Rattle.wit_data.specs.Entries.{Entry}
use Rattle.wit_data.specs.facts.YieldedFacts.{LeftDecide}
use Rattle.wit_labels.proofs.UnplacedSetters.{AsksNone}
use Rattle.wit_labels.proofs.placing.has_no_setter.Given as goal

-- those that are left decide
abbrev pub invariant-loop-key : goal.invariant-loop-key
invariant-loop-key l = LeftDecide AsksNone l.key-iterator l.entries
