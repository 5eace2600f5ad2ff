use Rattle.examples_resolve.proofs.OfMerges.TwoReasons.{two_reasons}
use Rattle.examples_resolve.proofs.merge.refusals.examples_of_two_reasons.Goals as goal

pub returns : goal.returns
returns c = two_reasons
