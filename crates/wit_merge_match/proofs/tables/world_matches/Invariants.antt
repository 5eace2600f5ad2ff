use Rattle.std.proofs.Common.{◌≡◌, map, take}
use Rattle.wit_merge_match.specs.steps.Matched.{world_under}
use Rattle.wit_merge_match.proofs.tables.world_matches.Given as goal

-- those of the first ones
abbrev pub invariant-loop-world : goal.invariant-loop-world
invariant-loop-world l = l.found ≡ map (world_under l.graph l.packages) (take l.world-index l.other.worlds)
