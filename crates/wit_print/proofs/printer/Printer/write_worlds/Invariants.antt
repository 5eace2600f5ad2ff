use Rattle.std.proofs.Common.{◌≡◌, ◌++◌, ℕ, List, string_bytes}
use Rattle.std.specs.List.{flat_map}
use Rattle.wit_print.specs.Worlds.{world_wit}
use Rattle.wit_print.proofs.printer.Printer.write_worlds.Given as goal

-- with those that are left it has all
abbrev pub invariant-loop-id : goal.invariant-loop-id
invariant-loop-id l =
    string_bytes l.text ++ flat_map (λ (e : List ℕ × ℕ). world_wit l.self.graph.now l.self.indent.now e.1) l.id-iterator
    ≡ string_bytes l.fn.text ++ flat_map (λ (e : List ℕ × ℕ). world_wit l.self.graph.now l.self.indent.now e.1) l.worlds
