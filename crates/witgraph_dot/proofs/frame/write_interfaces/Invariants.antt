use Rattle.std.proofs.Common.{◌≡◌, ◌++◌, ℕ, List, [], if◌then◌else◌, string_bytes}
use Rattle.std.specs.List.{flat_map}
use Rattle.witgraph_dot.specs.Boxes.{interface_boxes}
use Rattle.witgraph_dot.specs.Sets.{is_one_of}
use Rattle.witgraph_dot.proofs.frame.write_interfaces.Given as goal
use Rattle.witgraph_dot.specs.steps.Parts.{interface_box}

-- with those of the entries that are left it has all
abbrev pub invariant-loop-name : goal.invariant-loop-name
invariant-loop-name l =
    string_bytes l.text ++ flat_map (λ (e : List ℕ × ℕ). if is_one_of l.shown e.1 then interface_box e.1 e.0 else []) l.name-iterator
    ≡ string_bytes l.fn.text ++ interface_boxes l.shown l.«package»
