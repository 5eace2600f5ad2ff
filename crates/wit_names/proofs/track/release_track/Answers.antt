use Rattle.std.proofs.Common.{rules}
use Rattle.wit_names.proofs.track.release_track.Goals as goal

pub returns-in-0-default-default : goal.returns-in-0-default-default
returns-in-0-default-default c = search rules
