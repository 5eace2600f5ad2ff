use Rattle.std.proofs.Common.{◌≡◌, ◌++◌}
use Rattle.std.specs.List.{flat_map, range_with_len}
use Rattle.wit_link_spec.specs.steps.AdditionRefs.{addition_of}
use Rattle.wit_link_resources.specs.steps.Active.{interface_functions, seen}
use Rattle.wit_link_resources.proofs.functions.push_interfaces.Given as goal

abbrev pub invariant-loop-index : goal.invariant-loop-index
invariant-loop-index l = seen l.functions.items ≡ seen l.fn.functions.items ++ flat_map (interface_functions (addition_of l.addition)) (range_with_len 0 l.index)
