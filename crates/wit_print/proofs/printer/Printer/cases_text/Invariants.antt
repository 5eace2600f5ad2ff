use Rattle.std.proofs.Common.{◌≡◌, ◌++◌, codes, string_bytes, take}
use Rattle.std.specs.List.{flat_map}
use Rattle.wit_print.specs.Definitions.{case_wit}
use Rattle.wit_print.proofs.printer.Printer.cases_text.Given as goal

-- the lines so far
abbrev pub invariant-loop-case : goal.invariant-loop-case
invariant-loop-case l = string_bytes l.text ≡ flat_map (case_wit l.self.graph.now.types (l.self.indent.now ++ codes "  ")) (take l.case-index l.cases)
