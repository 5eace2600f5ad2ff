use Rattle.std.proofs.Common.{◌≡◌, ◌++◌, ℕ, codes}
use Rattle.std.specs.List.{flat_map}
use Rattle.std.specs.Map.{values_of}
use Rattle.wit_print.specs.Functions.{method_of}
use Rattle.wit_print.specs.steps.Methods.{text_under}
use Rattle.wit_print.proofs.printer.Printer.methods_among.Given as goal

-- with those of the functions that are left each resource has all
abbrev pub invariant-loop-function : goal.invariant-loop-function
invariant-loop-function l =
    (r : ℕ) → text_under l.methods r ++ flat_map (method_of l.self.graph.now.types ((l.self.indent.now ++ codes "  ") ++ codes "  ") r) (values_of l.function-iterator)
    ≡ flat_map (method_of l.self.graph.now.types ((l.self.indent.now ++ codes "  ") ++ codes "  ") r) (values_of l.functions)
