use Rattle.examples_resolve.proofs.OfGraphs.Computed.{spans}
use Rattle.examples_resolve.proofs.graph.additions.examples_of_spans.Goals as goal

pub returns : goal.returns
returns c = spans
