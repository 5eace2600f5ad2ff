use Rattle.examples_resolve.proofs.OfMerges.Mismatches.{mismatches}
use Rattle.examples_resolve.proofs.merge.refusals.examples_of_mismatches.Goals as goal

pub returns : goal.returns
returns c = mismatches
