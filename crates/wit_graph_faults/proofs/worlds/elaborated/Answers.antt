use Rattle.std.proofs.Common.{◌∙◌}
use Rattle.wit_data.specs.facts.EachFacts.{all_of, more}
use Rattle.wit_data.specs.declared.world.World.{World}
use Rattle.wit_elaboration.specs.Elaborated.{Elaborated}
use Rattle.wit_elaboration.specs.Elaboration.{graph_uses}
use Rattle.wit_shape.specs.facts.Found.{ended, first_at, read}
use Rattle.wit_graph_faults.specs.declared.place.GraphPlace.TheVariants as place
use Rattle.wit_graph_faults.proofs.worlds.elaborated.Goals as goal

pub is_canonical-requires-clause-listed : goal.is_canonical-requires-clause-listed
is_canonical-requires-clause-listed c =
    c.requires.listed c.loop-index.index c.index-worlds-index.result
    (read c.args.graph.now.worlds _ c.as_slice-worlds.ensures c.loop-index.index c.index-worlds-index.result c.loop-index-test.true c.index-worlds-index.is)

pub returns-then-not-branch-clause-found : goal.returns-then-not-branch-clause-found
returns-then-not-branch-clause-found c =
    let g = c.args.graph.now in
    first_at place.World (λ _ (world : World). Elaborated g.types (graph_uses g) world world) g.worlds c.loop-index.index _ c.index-worlds-index.result _ c.loop-index.invariant.below
    (read g.worlds _ c.as_slice-worlds.ensures c.loop-index.index c.index-worlds-index.result c.loop-index-test.true c.index-worlds-index.is)
    c.in_ok-is_canonical.ensures.holds c.if-not-branch.true c.from_index.ensures

pub loop-index-preserved : goal.loop-index-preserved
loop-index-preserved c = record {
  below = more c.loop-index.invariant.below c.index-worlds-index.result
      (read c.args.graph.now.worlds _ c.as_slice-worlds.ensures c.loop-index.index c.index-worlds-index.result c.loop-index-test.true c.index-worlds-index.is)
      c.in_ok-is_canonical.ensures.holds c.if-not-branch.false;
  same = c.in_ok-is_canonical.ensures.same ∙ c.loop-index.invariant.same;
}

pub returns-clause-found : goal.returns-clause-found
returns-clause-found c = all_of c.loop-index.invariant.below (ended c.args.graph.now.worlds _ c.loop-index.index c.as_slice-worlds.ensures c.loop-index-test.false)
