use Rattle.std.proofs.Common.{◌≡◌, ◌++◌}
use Rattle.std.specs.Map.{keys_of}
use Rattle.wit_elaboration.specs.Entries.{fresh_entries}
use Rattle.wit_elaboration.proofs.imports.add_class.Given as goal
use Rattle.wit_elaboration.specs.steps.Parts.{of_class}

-- the entries so far, and those that are left
abbrev pub invariant-loop-key : goal.invariant-loop-key
invariant-loop-key l =
    l.sorted ++ fresh_entries (keys_of l.sorted) (of_class l.types l.class l.key-iterator)
    ≡ l.fn.sorted ++ fresh_entries (keys_of l.fn.sorted) (of_class l.types l.class l.entries)
