use Rattle.std.proofs.Common.{◌∙◌, ◌<◌, ℕ, List, length, ap, sym, subst}
use Rattle.wit_data.specs.declared.world.World.{World}
use Rattle.wit_elaboration.proofs.AllWorlds.{placing-done, placing-step, placing-within, with_worlds}
use Rattle.wit_elaboration.proofs.all_worlds.place_lists.Goals as goal

pub loop-lists-preserved : goal.loop-lists-preserved
loop-lists-preserved c =
    let is = rw c.in-Some.ensures.last at c.loop-lists.invariant.placing in
    record {
      placing = rw c.set_lists.ensures (placing-step c.args.graph.now c.pop.new.self c.in-Some.lists c.loop-lists.graph.worlds c.len.result c.at_mut-world.result.now is
          c.len.ensures c.at_mut-world.ensures.value);
      graph = with_worlds c.loop-lists.graph c.args.graph.now _ c.loop-lists.invariant.graph;
    }

pub at_mut-world-requires : goal.at_mut-world-requires
at_mut-world-requires c =
    let is = rw c.in-Some.ensures.last at c.loop-lists.invariant.placing in
    let within = placing-within c.args.graph.now c.pop.new.self c.in-Some.lists c.loop-lists.graph.worlds is in
    subst (λ (n : ℕ). n < length c.loop-lists.graph.worlds) (sym c.len.ensures) within

pub returns : goal.returns
returns c =
    c.loop-lists.invariant.graph
    ∙ ap (λ (worlds : List World). record c.args.graph.now { worlds = worlds }) (placing-done c.args.graph.now c.loop-lists.left c.loop-lists.graph.worlds c.in_default.ensures.empty c.loop-lists.invariant.placing)
