use Rattle.std.proofs.Common.{◌≡◌, ◌++◌, [], codes, string_bytes, take}
use Rattle.std.specs.List.{flat_map}
use Rattle.wit_data.specs.declared.types.EnumCase.{EnumCase}
use Rattle.wit_print.specs.Definitions.{part_wit}
use Rattle.wit_print.proofs.printer.Printer.enum_cases_text.Given as goal

-- the lines so far
abbrev pub invariant-loop-case : goal.invariant-loop-case
invariant-loop-case l = string_bytes l.text ≡ flat_map (λ (c : EnumCase). part_wit (l.self.indent.now ++ codes "  ") c.docs c.name []) (take l.case-index l.cases)
