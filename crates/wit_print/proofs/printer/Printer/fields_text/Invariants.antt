use Rattle.std.proofs.Common.{◌≡◌, ◌++◌, codes, string_bytes, take}
use Rattle.std.specs.List.{flat_map}
use Rattle.wit_print.specs.Definitions.{field_wit}
use Rattle.wit_print.proofs.printer.Printer.fields_text.Given as goal

-- the lines so far
abbrev pub invariant-loop-field : goal.invariant-loop-field
invariant-loop-field l = string_bytes l.text ≡ flat_map (field_wit l.self.graph.now.types (l.self.indent.now ++ codes "  ")) (take l.field-index l.fields)
