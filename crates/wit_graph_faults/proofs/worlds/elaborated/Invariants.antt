use Rattle.std.proofs.Common.{◌≡◌}
use Rattle.wit_elaboration.specs.Elaborated.{Elaborated}
use Rattle.wit_elaboration.specs.Elaboration.{graph_uses}
use Rattle.wit_data.specs.facts.EachFacts.{EachBelow}
use Rattle.wit_data.specs.declared.world.World.{World}
use Rattle.wit_graph_faults.proofs.worlds.elaborated.Given as goal

-- the first ones are
abbrev pub invariant-loop-index : goal.invariant-loop-index
invariant-loop-index l = record {
  below : EachBelow l.index (λ _ (world : World). Elaborated l.graph.types (graph_uses l.graph) world world) l.graph.worlds;
  same : l.elaborator ≡ graph_uses l.graph;
}
