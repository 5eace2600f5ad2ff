use Rattle.std.proofs.Common.{rules}
use Rattle.wit_link_resources.specs.facts.MetTypes.{right-begun}
use Rattle.wit_link.proofs.caches.GraphCaches.of.Goals as goal

pub returns : goal.returns
returns c = record {
  uses = search rules;
  met = right-begun c.args.graph.now.types c.new-2.result c.new-2.ensures;
}
