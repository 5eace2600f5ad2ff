use Rattle.std.proofs.Common.{◌≡◌, ◌++◌, length, take, string_bytes}
use Rattle.std.specs.List.{flat_map}
use Rattle.wit_script.specs.World.{entry_line}
use Rattle.wit_script.proofs.printer.print_entries.Given as goal

-- the lines so far
abbrev pub invariant-loop-key : goal.invariant-loop-key
invariant-loop-key l = string_bytes l.text ≡ string_bytes l.initial.text ++ flat_map (entry_line l.graph l.word) (take (length l.yielded) l.entries)
