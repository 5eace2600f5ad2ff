use Rattle.std.proofs.Common.{◌≡◌, take}
use Rattle.wit_elaboration.specs.Elaboration.{graph_uses}
use Rattle.wit_elaboration.specs.steps.Elaboration.{AreListsOf}
use Rattle.wit_elaboration.specs.Imported.{HasTransitiveConflict}
use Rattle.wit_data.specs.facts.EachFacts.{EachBelow}
use Rattle.wit_data.specs.declared.world.World.{World}
use Rattle.wit_elaboration.proofs.all_worlds.all_lists.Given as goal

-- the lists of the first worlds are made, and none of these is in conflict
abbrev pub invariant-loop-world : goal.invariant-loop-world
invariant-loop-world l = record {
  lists : AreListsOf l.graph (take l.world-index l.graph.worlds) l.all;
  no_conflict : EachBelow l.world-index
      (λ _ (world : World). HasTransitiveConflict (graph_uses l.graph) world.exports → ⊥)
      l.graph.worlds;
  same : l.elaborator ≡ graph_uses l.graph;
}
