use Rattle.examples_resolve.proofs.OfMerges.Accepted.{accepted}
use Rattle.examples_resolve.proofs.merge.refusals.examples_of_accepted.Goals as goal

pub returns : goal.returns
returns c = accepted
