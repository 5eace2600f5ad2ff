use Rattle.std.proofs.Common.{◌≡◌, ◌++◌, map, take}
use Rattle.std.specs.Map.{keys_of}
use Rattle.wit_elaboration.specs.Elaborated.{dependency_of}
use Rattle.wit_elaboration.specs.Entries.{fresh_entries}
use Rattle.wit_elaboration.proofs.entries.add_dependencies.Given as goal

-- the entries so far
abbrev pub invariant-loop-interface : goal.invariant-loop-interface
invariant-loop-interface l =
    l.entries
    ≡ l.fn.entries
    ++ fresh_entries (keys_of l.fn.entries)
    (map (dependency_of l.carried) (take l.interface-index l.interfaces))
