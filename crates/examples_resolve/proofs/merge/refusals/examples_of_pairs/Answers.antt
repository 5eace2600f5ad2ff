use Rattle.examples_resolve.proofs.OfMerges.Pairs.{pairs}
use Rattle.examples_resolve.proofs.merge.refusals.examples_of_pairs.Goals as goal

pub returns : goal.returns
returns c = pairs
