use Rattle.std.proofs.Common.{◌≡◌, ◌++◌, string_bytes}
use Rattle.std.specs.List.{flat_map, range_with_len}
use Rattle.wit_print.specs.Packages.{other_wit}
use Rattle.wit_print.proofs.printer.Printer.write_others.Given as goal

-- the packages so far
abbrev pub invariant-loop-index : goal.invariant-loop-index
invariant-loop-index l = string_bytes l.text ≡ string_bytes l.fn.text ++ flat_map (other_wit l.self.graph.now l.id) (range_with_len 0 l.index)
