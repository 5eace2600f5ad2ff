use Rattle.std.proofs.Common.{take, length}
use Rattle.wit_elaboration.specs.Entries.{keyed_interfaces}
use Rattle.wit_semver.specs.steps.Replacing.{IsNewestTable}
use Rattle.wit_semver.proofs.newest.newest_by_track.Given as goal

-- it tells of the first entries
abbrev pub invariant-loop-key : goal.invariant-loop-key
invariant-loop-key l = IsNewestTable l.rule l.graph (keyed_interfaces (take (length l.yielded) l.entries)) l.newest.entries
