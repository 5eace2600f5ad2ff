use Rattle.std.proofs.Common.{take, Contains}
use Rattle.wit_elaboration.specs.Entries.{Entry}
use Rattle.wit_elaboration.specs.Imported.{IsEntryInConflict}
use Rattle.wit_elaboration.proofs.conflict.first_conflict.Given as goal

-- none so far
abbrev pub invariant-loop-index : goal.invariant-loop-index
invariant-loop-index l =
    (e : Entry) → Contains (take l.index l.exports) e → IsEntryInConflict l.uses l.exports e → ⊥
