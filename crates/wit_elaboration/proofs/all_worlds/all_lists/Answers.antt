use Rattle.std.proofs.Common.{◌≡◌, ◌∙◌, ◌⊎◌, ◌+◌, List, Some, take, slice_get, length, ap, refl, sym, subst, arith}
use Rattle.std.proofs.lemmas.Option.{slice_get_read}
use Rattle.wit_data.specs.declared.world.World.{World}
use Rattle.wit_graph_data.specs.facts.ResultFacts.{residual_error}
use Rattle.wit_graph_data.specs.declared.error_kind.ResolveErrorKind.{ResolveErrorKind}
use Rattle.wit_graph_data.specs.declared.error_kind.ResolveErrorKind.TheVariants.{OutOfMemory}
use Rattle.wit_elaboration.specs.steps.Elaboration.{AreListsOf, IsRefusedWorld}
use Rattle.wit_elaboration.proofs.AllWorlds.{below-all, below-next, made-next, refused_world}
use Rattle.wit_elaboration.proofs.all_worlds.all_lists.Goals as goal

pub new_lists-requires-clause-listed : goal.new_lists-requires-clause-listed
new_lists-requires-clause-listed c =
    c.requires.listed c.loop-world.world-index c.world-item.result
    (subst (λ (worlds : List World). slice_get worlds c.loop-world.world-index ≡ Some c.world-item.result) c.as_slice-world-items.ensures (slice_get_read c.as_slice-world-items.result.now _ c.loop-world.world-index c.world-item.result refl c.loop-world-test.true c.world-item.is))

pub returns-in_err-lists-clause-cause : goal.returns-in_err-lists-clause-cause
returns-in_err-lists-clause-cause c =
    residual_error c.from_residual-in_err-lists.result c.from_residual-in_err-lists.ensures.1
    (λ e is.
    let same : e ≡ c.in_err-lists.field-0.0 = is in
    subst (λ (x : ResolveErrorKind). (x ≡ OutOfMemory) ⊎ IsRefusedWorld c.args.graph.now x) (sym same)
    (refused_world c.args.graph.now c.loop-world.world-index c.world-item.result c.in_err-lists.field-0.0
    (subst (λ (worlds : List World). slice_get worlds c.loop-world.world-index ≡ Some c.world-item.result) c.as_slice-world-items.ensures (slice_get_read c.as_slice-world-items.result.now _ c.loop-world.world-index c.world-item.result refl c.loop-world-test.true c.world-item.is))
    c.in_err-lists.ensures.cause))

pub loop-world-preserved : goal.loop-world-preserved
loop-world-preserved c =
    let at : slice_get c.args.graph.now.worlds c.loop-world.world-index ≡ Some c.world-item.result =
    subst (λ (worlds : List World). slice_get worlds c.loop-world.world-index ≡ Some c.world-item.result) c.as_slice-world-items.ensures (slice_get_read c.as_slice-world-items.result.now _ c.loop-world.world-index c.world-item.result refl c.loop-world-test.true c.world-item.is) in
    record {
      lists = subst (AreListsOf c.args.graph.now (take (c.loop-world.world-index + 1) c.args.graph.now.worlds)) (sym c.in_ok-push.ensures.ok)
          (made-next c.args.graph.now c.loop-world.all c.loop-world.world-index c.world-item.result c.in_ok-lists.lists at c.loop-world.invariant.lists c.in_ok-lists.ensures.lists);
      no_conflict = below-next c.loop-world.invariant.no_conflict c.world-item.result at c.in_ok-lists.ensures.no_conflict;
      same = c.in_ok-lists.ensures.same ∙ c.loop-world.invariant.same;
    }

pub returns-clause-no_conflict : goal.returns-clause-no_conflict
returns-clause-no_conflict c = below-all c.loop-world.invariant.no_conflict (omega (arith, ap length c.as_slice-world-items.ensures))
