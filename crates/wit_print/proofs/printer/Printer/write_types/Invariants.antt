use Rattle.std.proofs.Common.{◌≡◌, ◌++◌, ℕ, List, string_bytes}
use Rattle.std.specs.List.{flat_map}
use Rattle.wit_print.specs.Definitions.{definition_wit}
use Rattle.wit_print.specs.steps.Methods.{text_under}
use Rattle.wit_print.proofs.printer.Printer.write_types.Given as goal

-- with those of the types that are left it has all
abbrev pub invariant-loop-id : goal.invariant-loop-id
invariant-loop-id l =
    string_bytes l.text ++ flat_map (λ (e : List ℕ × ℕ). definition_wit l.self.graph.now l.self.home l.self.indent.now e.1 (text_under l.self.methods.now e.1)) l.id-iterator
    ≡ string_bytes l.fn.text ++ flat_map (λ (e : List ℕ × ℕ). definition_wit l.self.graph.now l.self.home l.self.indent.now e.1 (text_under l.self.methods.now e.1)) l.types
