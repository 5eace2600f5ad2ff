use Rattle.examples_resolve.proofs.OfMerges.Refused.{refusals}
use Rattle.examples_resolve.proofs.merge.refusals.examples_of_refusals.Goals as goal

pub returns : goal.returns
returns c = refusals
