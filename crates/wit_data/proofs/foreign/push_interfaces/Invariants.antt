use Rattle.std.proofs.Common.{◌≡◌, ◌++◌}
use Rattle.std.specs.List.{flat_map}
use Rattle.wit_data.specs.Foreign.{ForeignItem, interface_id}
use Rattle.wit_data.proofs.foreign.push_interfaces.Given as goal

-- what has been added, and what those will add that are left
abbrev pub invariant-loop-item : goal.invariant-loop-item
invariant-loop-item l =
    l.ids ++ flat_map (λ (e : ForeignItem). interface_id e.1.0) l.item-iterator
    ≡ l.fn.ids ++ flat_map (λ (e : ForeignItem). interface_id e.1.0) l.named
