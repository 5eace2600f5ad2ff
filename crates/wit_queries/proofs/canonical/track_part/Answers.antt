use Rattle.std.proofs.Common.{rules}
use Rattle.wit_queries.proofs.canonical.track_part.Goals as goal

pub returns-in_ok-track-in-Some : goal.returns-in_ok-track-in-Some
returns-in_ok-track-in-Some c = search rules
