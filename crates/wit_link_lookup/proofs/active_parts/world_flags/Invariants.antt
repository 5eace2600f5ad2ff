use Rattle.std.proofs.Common.{◌≡◌, map}
use Rattle.std.specs.List.{range_with_len}
use Rattle.wit_link_lookup.specs.steps.FeatureSteps.{own_world_flag}
use Rattle.wit_link_lookup.proofs.active_parts.world_flags.Given as goal

-- the flags of the first ones
abbrev pub invariant-loop-index : goal.invariant-loop-index
invariant-loop-index l = l.flags ≡ map (own_world_flag l.features l.unresolved) (range_with_len 0 l.index)
