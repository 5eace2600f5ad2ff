use Rattle.examples_resolve.proofs.OfMerges.Computed.{matches}
use Rattle.examples_resolve.proofs.merge.merged_graphs.examples_of_matches.Goals as goal

pub returns : goal.returns
returns c = matches
