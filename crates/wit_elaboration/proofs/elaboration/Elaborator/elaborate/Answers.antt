use Rattle.std.proofs.Common.{◌≡◌, ◌⊎◌, ◌∙◌, Some, ap, slice_get, subst, sym, inl, inr}
use Rattle.wit_graph_data.specs.facts.ResultFacts.{residual_error}
use Rattle.wit_graph_data.specs.declared.error_kind.ResolveErrorKind.{ResolveErrorKind}
use Rattle.wit_graph_data.specs.declared.error_kind.ResolveErrorKind.TheVariants.{OutOfMemory}
use Rattle.wit_elaboration.specs.Elaboration.{IsElaborationError}
use Rattle.wit_elaboration.proofs.Refusing.{no_conflict_at}
use Rattle.wit_elaboration.proofs.elaboration.Elaborator.elaborate.Goals as goal

pub returns-clause-refuses : goal.returns-clause-refuses
returns-clause-refuses c =
    let there = ap (slice_get c.args.graph.now.worlds) (sym c.index.ensures) ∙ c.at.ensures in
    no_conflict_at c.args.graph.now c.args.world c.at.result.now there c.in_ok-lists.ensures.no_conflict

pub returns-in_err-lists-clause-cause : goal.returns-in_err-lists-clause-cause
returns-in_err-lists-clause-cause c =
    let there : slice_get c.args.graph.now.worlds c.args.world ≡ Some c.at.result.now = ap (slice_get c.args.graph.now.worlds) (sym c.index.ensures) ∙ c.at.ensures in
    let told : (c.in_err-lists.field-0.0 ≡ OutOfMemory) ⊎ IsElaborationError c.args.graph.now c.args.world c.in_err-lists.field-0.0 =
    elim c.in_err-lists.ensures.cause [
      | inl none ↦ inl none
      | inr conflict ↦ inr (c.at.result.now, there, conflict)
    ] in
    residual_error c.from_residual.result c.from_residual.ensures.1
    (λ e is.
    let same : e ≡ c.in_err-lists.field-0.0 = is in
    subst (λ (x : ResolveErrorKind). (x ≡ OutOfMemory) ⊎ IsElaborationError c.args.graph.now c.args.world x) (sym same) told)
