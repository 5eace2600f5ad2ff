use Rattle.examples_resolve.proofs.OfMerges.SemverRows.{examples_of_tracks}
use Rattle.examples_resolve.proofs.merge.semver_merges.examples_of_tracks.Goals as goal

pub returns : goal.returns
returns c = examples_of_tracks
