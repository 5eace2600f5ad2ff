use Rattle.std.proofs.Common.{◌≡◌, ◌++◌, drop}
use Rattle.std.specs.List.{flat_map}
use Rattle.wit_remap_spec.specs.ValueRemap.{world_functions}
use Rattle.wit_link_resources.specs.steps.Active.{seen}
use Rattle.wit_merge.proofs.functions.push_of_worlds.Given as goal

-- what has been added, and what those will add that are left
abbrev pub invariant-loop-world : goal.invariant-loop-world
invariant-loop-world l = seen l.functions.items ++ flat_map world_functions (drop l.world-index l.worlds) ≡ seen l.fn.functions.items ++ flat_map world_functions l.worlds
