use Rattle.std.proofs.Common.{◌≡◌, ◌++◌, string_bytes}
use Rattle.std.specs.List.{flat_map}
use Rattle.wit_data.specs.Entries.{Entry}
use Rattle.wit_print.specs.Worlds.{entry_wit}
use Rattle.wit_print.specs.steps.Methods.{text_under}
use Rattle.wit_print.proofs.printer.Printer.write_side.Given as goal

-- with those of the entries that are left it has all
abbrev pub invariant-loop-key : goal.invariant-loop-key
invariant-loop-key l =
    string_bytes l.text ++ flat_map (λ (e : Entry). entry_wit l.self.graph.now l.self.home l.self.indent.now (text_under l.self.methods.now) l.side e.0 e.1) l.key-iterator
    ≡ string_bytes l.fn.text ++ flat_map (λ (e : Entry). entry_wit l.self.graph.now l.self.home l.self.indent.now (text_under l.self.methods.now) l.side e.0 e.1) l.entries
