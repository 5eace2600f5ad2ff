use Rattle.std.proofs.Common.{◌≡◌, ℕ, map, take}
use Rattle.wit_data.specs.Entries.{Entry}
use Rattle.wit_labels.specs.steps.Placing.{later_getter}
use Rattle.wit_labels.proofs.placing.getters_of.Given as goal
use Rattle.wit_labels.specs.steps.Parts.{indexed_entries}

-- those so far
abbrev pub invariant-loop-index : goal.invariant-loop-index
invariant-loop-index l =
    l.getters
    ≡ map (λ (p : ℕ × Entry). later_getter l.entries p.0 p.1)
    (take l.index (indexed_entries l.entries))
