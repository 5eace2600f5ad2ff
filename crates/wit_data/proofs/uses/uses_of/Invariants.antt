use Rattle.std.proofs.Common.{◌≡◌, map, take}
use Rattle.wit_data.specs.Uses.{interface_uses}
use Rattle.wit_data.proofs.uses.uses_of.Given as goal

-- the rows so far
abbrev pub invariant-loop-interface : goal.invariant-loop-interface
invariant-loop-interface l =
    l.rows ≡ map (interface_uses l.types) (take l.interface-index l.interfaces)
