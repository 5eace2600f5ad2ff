use Rattle.wit_data.specs.facts.YieldedFacts.{LeftDecide}
use Rattle.wit_data.specs.Entries.{Entry}
use Rattle.wit_remap.specs.steps.Fits.{Fits, ItemFits}
use Rattle.wit_remap.proofs.fitting.entries_fit.Given as goal

-- those that are left decide
abbrev pub invariant-loop-item : goal.invariant-loop-item
invariant-loop-item l = LeftDecide (λ (e : Entry). ItemFits (Fits l.offset) e.1) l.item-iterator l.entries
