use Rattle.std.proofs.Common.{◌≡◌, ◌++◌, [], codes, string_bytes, take}
use Rattle.std.specs.List.{flat_map}
use Rattle.wit_data.specs.declared.types.Flag.{Flag}
use Rattle.wit_print.specs.Definitions.{part_wit}
use Rattle.wit_print.proofs.printer.Printer.flags_text.Given as goal

-- the lines so far
abbrev pub invariant-loop-flag : goal.invariant-loop-flag
invariant-loop-flag l = string_bytes l.text ≡ flat_map (λ (f : Flag). part_wit (l.self.indent.now ++ codes "  ") f.docs f.name []) (take l.flag-index l.flags)
