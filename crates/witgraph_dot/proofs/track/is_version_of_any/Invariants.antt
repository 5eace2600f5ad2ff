use Rattle.std.proofs.Common.{◌≡◌, false, take}
use Rattle.std.specs.List.{list_any}
use Rattle.witgraph_dot.proofs.track.is_version_of_any.Given as goal
use Rattle.witgraph_dot.specs.Tracks.{are_versions_of_one}

-- none of those so far
abbrev pub invariant-loop-other : goal.invariant-loop-other
invariant-loop-other l = list_any (are_versions_of_one l.resolve.track_rule l.resolve.graph l.id) (take l.other-index l.some) ≡ false
