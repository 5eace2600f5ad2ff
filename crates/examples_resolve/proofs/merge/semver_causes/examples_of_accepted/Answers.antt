use Rattle.examples_resolve.proofs.OfMerges.SemverAccepted.{accepted}
use Rattle.examples_resolve.proofs.merge.semver_causes.examples_of_accepted.Goals as goal

pub returns : goal.returns
returns c = accepted
