use Rattle.examples_resolve.proofs.OfMerges.SemverReasons.{causes}
use Rattle.examples_resolve.proofs.merge.semver_causes.examples_of_causes.Goals as goal

pub returns : goal.returns
returns c = causes
