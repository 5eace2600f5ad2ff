use Rattle.std.proofs.Common.{◌≡◌, ◌++◌, [], ℕ, List, string_bytes}
use Rattle.std.specs.List.{flat_map}
use Rattle.wit_data.specs.declared.function.Function.{Function}
use Rattle.wit_print.specs.Functions.{free_wit}
use Rattle.wit_print.proofs.printer.Printer.write_functions.Given as goal

-- with those of the functions that are left it has all
abbrev pub invariant-loop-function : goal.invariant-loop-function
invariant-loop-function l =
    string_bytes l.text ++ flat_map (λ (e : List ℕ × Function). free_wit l.self.graph.now.types l.self.indent.now [] e.1) l.function-iterator
    ≡ string_bytes l.fn.text ++ flat_map (λ (e : List ℕ × Function). free_wit l.self.graph.now.types l.self.indent.now [] e.1) l.functions
