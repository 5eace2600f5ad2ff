use Rattle.examples_resolve.proofs.OfMerges.Computed.{merged_graphs}
use Rattle.examples_resolve.proofs.merge.merged_graphs.examples_of_merged_graphs.Goals as goal

pub returns : goal.returns
returns c = merged_graphs
