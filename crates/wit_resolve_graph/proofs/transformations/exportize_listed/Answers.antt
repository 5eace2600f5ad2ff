use Rattle.std.proofs.Common.{◌≡◌, ◌⊎◌, inl, inr, ℕ, Bool, List, Option, option_map, string_bytes, sym, subst}
use Rattle.wit_graph_data.specs.facts.ResultFacts.{residual_error}
use Rattle.wit_graph_data.specs.declared.error_kind.ResolveErrorKind.{ResolveErrorKind}
use Rattle.wit_graph_data.specs.declared.error_kind.ResolveErrorKind.TheVariants.{OutOfMemory}
use Rattle.wit_resolve_graph.specs.Step.{answers_at}
use Rattle.wit_transform.specs.Transformed.{IsExportizeCause}
use Rattle.wit_resolve_graph.proofs.transformations.exportize_listed.Goals as goal

pub returns-in_err-exportize_answered-clause-cause : goal.returns-in_err-exportize_answered-clause-cause
returns-in_err-exportize_answered-clause-cause c =
    residual_error c.from_residual-in_err-exportize_answered.result c.from_residual-in_err-exportize_answered.ensures.1
    (λ e is.
    let same : e ≡ c.in_err-exportize_answered.field-0.0 = is in
    subst (λ (x : ResolveErrorKind). (x ≡ OutOfMemory) ⊎ IsExportizeCause c.args.resolve.now.graph c.args.world (answers_at c.args.resolve.now c.args.keys c.args.world) c.args.out x) (sym same)
    (elim c.in_err-exportize_answered.ensures.cause [
      | inl memory ↦ inl memory
      | inr told ↦
          inr (subst (λ (o : Option (List ℕ)). IsExportizeCause c.args.resolve.now.graph c.args.world (answers_at c.args.resolve.now c.args.keys c.args.world) o c.in_err-exportize_answered.field-0.0) c.out_name.ensures
          (subst (λ (answers : List Bool). IsExportizeCause c.args.resolve.now.graph c.args.world answers (option_map string_bytes c.out_name.result) c.in_err-exportize_answered.field-0.0) c.in_ok-answers.ensures.ok told))
    ]))

pub returns-clause-refuses : goal.returns-clause-refuses
returns-clause-refuses c =
    λ kind cause.
    c.in_ok-exportize_answered.ensures.refuses kind
    (subst (λ (answers : List Bool). IsExportizeCause c.args.resolve.now.graph c.args.world answers (option_map string_bytes c.out_name.result) kind) (sym c.in_ok-answers.ensures.ok)
    (subst (λ (o : Option (List ℕ)). IsExportizeCause c.args.resolve.now.graph c.args.world (answers_at c.args.resolve.now c.args.keys c.args.world) o kind) (sym c.out_name.ensures) cause))
