use Rattle.std.proofs.Common.{◌≡◌, ◌++◌, ℕ, codes}
use Rattle.std.specs.List.{flat_map}
use Rattle.wit_data.specs.Entries.{Entry}
use Rattle.wit_print.specs.Functions.{method_of}
use Rattle.wit_print.specs.Worlds.{item_functions}
use Rattle.wit_print.specs.steps.Methods.{text_under}
use Rattle.wit_print.proofs.printer.Printer.imported_methods.Given as goal

-- with those of the imports that are left each resource has all
abbrev pub invariant-loop-item : goal.invariant-loop-item
invariant-loop-item l =
    (r : ℕ) → text_under l.methods r ++ flat_map (method_of l.self.graph.now.types ((l.self.indent.now ++ codes "  ") ++ codes "  ") r) (flat_map (λ (e : Entry). item_functions e.1) l.item-iterator)
    ≡ flat_map (method_of l.self.graph.now.types ((l.self.indent.now ++ codes "  ") ++ codes "  ") r) (flat_map (λ (e : Entry). item_functions e.1) l.imports)
