use Rattle.std.proofs.Common.{◌≡◌, ◌++◌, not, filter}
use Rattle.std.specs.Map.{keys_of}
use Rattle.wit_elaboration.specs.Entries.{fresh_entries}
use Rattle.wit_elaboration.proofs.exports.add_functions.Given as goal
use Rattle.wit_elaboration.specs.steps.Parts.{is_interface}

-- the functions so far, and those that are left
abbrev pub invariant-loop-key : goal.invariant-loop-key
invariant-loop-key l =
    l.exports
    ++ fresh_entries (keys_of l.exports) (filter (λ e. not (is_interface e)) l.key-iterator)
    ≡ l.fn.exports
    ++ fresh_entries (keys_of l.fn.exports) (filter (λ e. not (is_interface e)) l.listed)
