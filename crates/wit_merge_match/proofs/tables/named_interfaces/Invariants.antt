use Rattle.std.proofs.Common.{◌≡◌, map, take}
use Rattle.wit_merge_match.specs.steps.Matched.{interface_under}
use Rattle.wit_merge_match.proofs.tables.named_interfaces.Given as goal

-- those of the first ones
abbrev pub invariant-loop-interface : goal.invariant-loop-interface
invariant-loop-interface l = l.found ≡ map (interface_under l.graph l.packages) (take l.interface-index l.other.interfaces)
