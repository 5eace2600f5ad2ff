use Rattle.std.proofs.Common.{◌≡◌, ◌⊎◌, rules, subst, sym}
use Rattle.wit_graph_data.specs.facts.ResultFacts.{residual_error}
use Rattle.wit_graph_data.specs.declared.error_kind.ResolveErrorKind.{ResolveErrorKind}
use Rattle.wit_graph_data.specs.declared.error_kind.ResolveErrorKind.TheVariants.{OutOfMemory}
use Rattle.wit_elaboration.specs.Elaboration.{IsConflictError, graph_uses}
use Rattle.wit_elaboration.specs.Imported.{HasTransitiveConflict}
use Rattle.wit_data.specs.declared.world.World.{World}
use Rattle.wit_link_spec.specs.WorldReasons.{IsFinishCause}
use Rattle.wit_link_include.proofs.Causes.{conflict_cause, finish_accepted}
use Rattle.wit_link_include.proofs.finishing.finish_world.Goals as goal

pub returns-clause-ok : goal.returns-clause-ok
returns-clause-ok c = search rules

pub returns-clause-fine : goal.returns-clause-fine
returns-clause-fine c =
    finish_accepted c.args.graph.now c.args.world c.in_ok-check_labels.ensures.fine
    (subst (λ (w : World). HasTransitiveConflict (graph_uses c.args.graph.now) w.exports → ⊥) c.in_ok-world.ensures c.in_ok-world-2.ensures.no_conflict)

pub returns-in_err-world-2-clause-cause : goal.returns-in_err-world-2-clause-cause
returns-in_err-world-2-clause-cause c =
    let told = conflict_cause c.args.graph.now c.args.world c.in_err-world-2.field-0.0
    (subst (λ (w : World). (c.in_err-world-2.field-0.0 ≡ OutOfMemory) ⊎ IsConflictError c.args.graph.now w c.in_err-world-2.field-0.0) c.in_ok-world.ensures c.in_err-world-2.ensures.cause) in
    residual_error c.from_residual-in_err-world-2.result c.from_residual-in_err-world-2.ensures.1
    (λ e is.
    let same : e ≡ c.in_err-world-2.field-0.0 = is in
    subst (λ (x : ResolveErrorKind). (x ≡ OutOfMemory) ⊎ IsFinishCause c.args.graph.now c.args.world x) (sym same) told)
