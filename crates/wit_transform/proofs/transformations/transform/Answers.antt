use Rattle.std.proofs.Common.{◌≡◌, ◌∙◌, ◌⊎◌, ℕ, Option, Some, slice_get, sym, ap, subst}
use Rattle.std.specs.Option.{option_map_or}
use Rattle.wit_data.specs.declared.world.World.{World}
use Rattle.wit_graph_data.specs.facts.ResultFacts.{residual_error}
use Rattle.wit_elaboration.specs.Elaboration.{IsConflictError, elaborated_world, graph_uses}
use Rattle.wit_elaboration.specs.Imported.{HasTransitiveConflict}
use Rattle.wit_graph_data.specs.declared.error_kind.ResolveErrorKind.{ResolveErrorKind}
use Rattle.wit_graph_data.specs.declared.error_kind.ResolveErrorKind.TheVariants.{OutOfMemory}
use Rattle.wit_graph_theory.specs.facts.ListFacts.{some_at}
use Rattle.wit_transform.proofs.TransformSteps.{conflict_told}
use Rattle.wit_transform.specs.Transformed.{WorldLists, transformed_at}
use Rattle.wit_transform.specs.steps.Transformed.{ExportsAreInConflict, NameIsFreeAt}
use Rattle.wit_transform.proofs.transformations.transform.Goals as goal
use Rattle.wit_transform.specs.steps.Parts.{with_world}

pub returns-in_err-transformed-clause-cause : goal.returns-in_err-transformed-clause-cause
returns-in_err-transformed-clause-cause c =
    let there : slice_get c.args.graph.now.worlds c.args.world ≡ Some c.at.result.now = subst (λ (i : ℕ). slice_get c.args.graph.now.worlds i ≡ Some c.at.result.now) c.index.ensures c.at.ensures in
    let transform : WorldLists = record { name = c.args.name; imports = c.args.lists.imports; exports = c.args.lists.exports } in
    let told = conflict_told c.args.graph.now c.args.world c.at.result.now transform c.in_err-transformed.field-0.0 there
    (subst (λ (x : World). (c.in_err-transformed.field-0.0 ≡ OutOfMemory) ⊎ IsConflictError c.args.graph.now x c.in_err-transformed.field-0.0) c.in_ok-listed.ensures c.in_err-transformed.ensures.cause) in
    residual_error c.from_residual-in_err-transformed.result c.from_residual-in_err-transformed.ensures.1
    (λ e is.
    let same : e ≡ c.in_err-transformed.field-0.0 = is in
    subst (λ (x : ResolveErrorKind). (x ≡ OutOfMemory) ⊎ ExportsAreInConflict c.args.graph.now c.args.world c.args.lists.exports x) (sym same) told)

pub put-requires-clause-home : goal.put-requires-clause-home
put-requires-clause-home c =
    let there : slice_get c.args.graph.now.worlds c.args.world ≡ Some c.at.result.now = subst (λ (i : ℕ). slice_get c.args.graph.now.worlds i ≡ Some c.at.result.now) c.index.ensures c.at.ensures in
    some_at (λ (current : World). current.package ≡ c.in_ok-transformed.transformed.package) c.args.graph.now.worlds c.args.world c.at.result.now there
    (sym (ap (λ (x : World). x.package) c.in_ok-transformed.ensures.ok ∙ ap (λ (x : World). x.package) c.in_ok-listed.ensures))

pub put-requires-clause-free : goal.put-requires-clause-free
put-requires-clause-free c =
    let named : c.in_ok-transformed.transformed.name ≡ c.args.name = ap (λ (x : World). x.name) c.in_ok-transformed.ensures.ok ∙ ap (λ (x : World). x.name) c.in_ok-listed.ensures in
    subst (NameIsFreeAt c.args.graph.now c.args.world) (sym named) c.requires.free

pub returns-clause-ok : goal.returns-clause-ok
returns-clause-ok c =
    let there : slice_get c.args.graph.now.worlds c.args.world ≡ Some c.at.result.now = subst (λ (i : ℕ). slice_get c.args.graph.now.worlds i ≡ Some c.at.result.now) c.index.ensures c.at.ensures in
    let transform : WorldLists = record { name = c.args.name; imports = c.args.lists.imports; exports = c.args.lists.exports } in
    c.in_ok-put.ensures.ok
    ∙ ap (with_world c.args.graph.now c.args.world) (c.in_ok-transformed.ensures.ok ∙ ap (elaborated_world c.args.graph.now) c.in_ok-listed.ensures)
    ∙ sym (ap (λ (o : Option World). option_map_or (λ (x : World). transformed_at c.args.graph.now c.args.world x transform) o c.args.graph.now) there)

pub returns-clause-no_conflict : goal.returns-clause-no_conflict
returns-clause-no_conflict c =
    λ conflict. c.in_ok-transformed.ensures.no_conflict (subst (λ (x : World). HasTransitiveConflict (graph_uses c.args.graph.now) x.exports) (sym c.in_ok-listed.ensures) conflict)
