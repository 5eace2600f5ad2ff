use Rattle.examples_resolve.proofs.OfMerges.CopiesStay.{copies}
use Rattle.examples_resolve.proofs.merge.merged_graphs.examples_of_copies.Goals as goal

pub returns : goal.returns
returns c = copies
