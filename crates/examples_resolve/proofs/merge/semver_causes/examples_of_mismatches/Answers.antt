use Rattle.examples_resolve.proofs.OfMerges.SemverMismatches.{mismatches}
use Rattle.examples_resolve.proofs.merge.semver_causes.examples_of_mismatches.Goals as goal

pub returns : goal.returns
returns c = mismatches
