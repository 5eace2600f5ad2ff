use Rattle.std.proofs.Common.{◌≡◌, ◌⊎◌, Bool, false, inl, inr}
use Rattle.std.specs.Prelude.{IsTrue}
use Rattle.wit_graph_data.specs.declared.error_kind.ResolveErrorKind.{ResolveErrorKind}
use Rattle.wit_graph_data.specs.declared.error_kind.ResolveErrorKind.TheVariants.{OutOfMemory}
use Rattle.wit_elaboration.specs.Elaboration.{IsConflictError, graph_uses}
use Rattle.wit_elaboration.specs.Imported.{HasTransitiveConflict}
use Rattle.wit_validity.proofs.Refusals.{IfOk-weaker, elaborated_is}
use Rattle.wit_validity.proofs.canonical.is_canonical.Goals as goal

is_not_true : (b : Bool) → b ≡ false → IsTrue b → ⊥
is_not_true b is passed = cc

pub returns-in-Ok-clause-holds : goal.returns-in-Ok-clause-holds
returns-in-Ok-clause-holds c =
    let g = c.args.graph.now in
    elaborated_is g.types (graph_uses g) c.args.world.now c.in-Ok.lists c.are_of.result c.in-Ok.ensures.no_conflict c.in-Ok.ensures.imports c.in-Ok.ensures.exports c.are_of.ensures

pub returns-in-Err-clause-holds : goal.returns-in-Err-clause-holds
returns-in-Err-clause-holds c =
    IfOk-weaker c.without_elaboration.result
    (λ canonical holds.
    let conflict : HasTransitiveConflict (graph_uses c.args.graph.now) c.args.world.now.exports =
    elim c.in-Err.ensures.cause [ inl none ↦ absurd (holds.1 none) | inr told ↦ told.2 ] in (
      λ passed. absurd (is_not_true canonical holds.0 passed),
      λ elaborated. absurd (elaborated.no_conflict conflict),
    ))
    c.without_elaboration.ensures.holds
