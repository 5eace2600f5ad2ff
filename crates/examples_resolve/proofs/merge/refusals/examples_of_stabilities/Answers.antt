use Rattle.examples_resolve.proofs.OfMerges.Stabilities.{stabilities}
use Rattle.examples_resolve.proofs.merge.refusals.examples_of_stabilities.Goals as goal

pub returns : goal.returns
returns c = stabilities
