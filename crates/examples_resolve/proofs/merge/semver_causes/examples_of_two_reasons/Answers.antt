use Rattle.examples_resolve.proofs.OfMerges.SemverTwoReasons.{two_reasons}
use Rattle.examples_resolve.proofs.merge.semver_causes.examples_of_two_reasons.Goals as goal

pub returns : goal.returns
returns c = two_reasons
