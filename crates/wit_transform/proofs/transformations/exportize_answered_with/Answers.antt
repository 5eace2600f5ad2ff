use Rattle.std.proofs.Common.{◌≡◌, ◌∙◌, ◌⊎◌, inl, inr, ℕ, true, List, [], Option, Some, length, slice_get, string_bytes, refl, sym, ap, subst}
use Rattle.std.specs.Option.{option_map, option_map_or}
use Rattle.wit_data.specs.declared.world.World.{World}
use Rattle.wit_graph_data.specs.facts.ResultFacts.{residual_error}
use Rattle.wit_elaboration.specs.Elaboration.{graph_uses}
use Rattle.wit_elaboration.specs.Entries.{Entry}
use Rattle.wit_elaboration.specs.Imported.{HasTransitiveConflict}
use Rattle.wit_elaboration.specs.Sound.{HasSoundEntries}
use Rattle.wit_elaboration.specs.Valid.{IsValid}
use Rattle.wit_graph_data.specs.declared.error_kind.ResolveErrorKind.{ResolveErrorKind}
use Rattle.wit_graph_data.specs.declared.error_kind.ResolveErrorKind.TheVariants.{OutOfMemory}
use Rattle.wit_graph_theory.specs.facts.ListFacts.{same_at}
use Rattle.wit_transform.proofs.TransformSteps.{exportize_clear, exportize_conflict, exportized_in_order, has_home, transformed_same}
use Rattle.wit_transform.specs.Transformed.{IsExportizeCause, exportized_name_taken, not_exported, WorldLists, entries_by_answer, exportized, transformed}
use Rattle.wit_transform.specs.steps.Transformed.{NameIsFreeAt}
use Rattle.wit_transform.proofs.transformations.exportize_answered_with.Goals as goal

pub free_name-requires : goal.free_name-requires
free_name-requires c = record { world = has_home c.args.graph.now c.requires.valid c.args.world c.requires.world }

pub returns-in_err-name-clause-cause : goal.returns-in_err-name-clause-cause
returns-in_err-name-clause-cause c =
    residual_error c.from_residual.result c.from_residual.ensures.1
    (λ e is.
    let same : e ≡ c.in_err-name.field-0.0 = is in
    subst (λ (x : ResolveErrorKind). (x ≡ OutOfMemory) ⊎ IsExportizeCause c.args.graph.now c.args.world c.args.answers.now (option_map string_bytes c.args.out) x) (sym same)
    (elim c.in_err-name.ensures.cause [
      | inl memory ↦ inl memory
      | inr taken ↦ inr (taken.0, taken.2, exportized_name_taken taken.1 taken.3 taken.4)
    ]))

pub returns-in_err-lists-clause-cause : goal.returns-in_err-lists-clause-cause
returns-in_err-lists-clause-cause c =
    let there : slice_get c.args.graph.now.worlds c.args.world ≡ Some c.at.result.now = subst (λ (i : ℕ). slice_get c.args.graph.now.worlds i ≡ Some c.at.result.now) c.index.ensures c.at.ensures in
    residual_error c.from_residual-in_err-lists.result c.from_residual-in_err-lists.ensures.1
    (λ e is.
    let same : e ≡ c.in_err-lists.field-0.0 = is in
    subst (λ (x : ResolveErrorKind). (x ≡ OutOfMemory) ⊎ IsExportizeCause c.args.graph.now c.args.world c.args.answers.now (option_map string_bytes c.args.out) x) (sym same)
    (elim c.in_err-lists.ensures.cause [
      | inl memory ↦ inl memory
      | inr told ↦ inr (c.at.result.now, there, not_exported told)
    ]))

pub transform-requires-clause-tables : goal.transform-requires-clause-tables
transform-requires-clause-tables c = c.requires.valid.well_formed.tables

pub transform-requires-clause-listed : goal.transform-requires-clause-listed
transform-requires-clause-listed c =
    let there : slice_get c.args.graph.now.worlds c.args.world ≡ Some c.at.result.now = subst (λ (i : ℕ). slice_get c.args.graph.now.worlds i ≡ Some c.at.result.now) c.index.ensures c.at.ensures in
    let count : length c.args.answers.now ≡ length c.at.result.now.imports = c.requires.answers ∙ ap (λ (o : Option World). length (option_map_or (λ (x : World). x.imports) o [])) there in
    let order = exportized_in_order c.args.graph.now c.requires.valid c.args.world c.at.result.now c.args.answers.now (option_map string_bytes c.args.out) there count c.in_ok-lists.ensures.none in
    subst (λ (es : List Entry). HasSoundEntries c.args.graph.now.types (length c.args.graph.now.interfaces) c.in_ok-lists.lists.imports es) (sym c.in_ok-lists.ensures.exports)
    (subst (λ (es : List Entry). HasSoundEntries c.args.graph.now.types (length c.args.graph.now.interfaces) es (entries_by_answer true c.at.result.now.imports c.args.answers.now)) (sym c.in_ok-lists.ensures.imports) order)

pub returns-in_err-transform-clause-cause : goal.returns-in_err-transform-clause-cause
returns-in_err-transform-clause-cause c =
    let there : slice_get c.args.graph.now.worlds c.args.world ≡ Some c.at.result.now = subst (λ (i : ℕ). slice_get c.args.graph.now.worlds i ≡ Some c.at.result.now) c.index.ensures c.at.ensures in
    let out = option_map string_bytes c.args.out in
    let named = c.in_ok-name.ensures.ok in
    let same : named.0 ≡ c.at.result.now = same_at c.args.graph.now.worlds c.args.world c.args.world named.0 c.at.result.now refl named.1 there in
    let name : c.in_ok-name.name ≡ (exportized c.args.answers.now out c.at.result.now).name = named.2 ∙ ap (λ (x : World). (exportized c.args.answers.now out x).name) same in
    residual_error c.from_residual-in_err-transform.result c.from_residual-in_err-transform.ensures.1
    (λ e is.
    let one : e ≡ c.in_err-transform.field-0.0 = is in
    subst (λ (x : ResolveErrorKind). (x ≡ OutOfMemory) ⊎ IsExportizeCause c.args.graph.now c.args.world c.args.answers.now out x) (sym one)
    (elim c.in_err-transform.ensures.cause [
      | inl memory ↦ inl memory
      | inr told ↦
          inr (exportize_conflict c.args.graph.now c.args.world c.at.result.now c.args.answers.now out c.in_ok-lists.lists.exports c.in_err-transform.field-0.0 there
          (subst (NameIsFreeAt c.args.graph.now c.args.world) name c.in_ok-name.ensures.free) c.in_ok-lists.ensures.none c.in_ok-lists.ensures.exports told)
    ]))

pub returns-clause-refuses : goal.returns-clause-refuses
returns-clause-refuses c =
    λ error cause.
    let there : slice_get c.args.graph.now.worlds c.args.world ≡ Some c.at.result.now = subst (λ (i : ℕ). slice_get c.args.graph.now.worlds i ≡ Some c.at.result.now) c.index.ensures c.at.ensures in
    let out = option_map string_bytes c.args.out in
    let named = c.in_ok-name.ensures.ok in
    let same : named.0 ≡ c.at.result.now = same_at c.args.graph.now.worlds c.args.world c.args.world named.0 c.at.result.now refl named.1 there in
    let name : c.in_ok-name.name ≡ (exportized c.args.answers.now out c.at.result.now).name = named.2 ∙ ap (λ (x : World). (exportized c.args.answers.now out x).name) same in
    exportize_clear c.args.graph.now c.args.world c.at.result.now c.args.answers.now out there (subst (NameIsFreeAt c.args.graph.now c.args.world) name c.in_ok-name.ensures.free) c.in_ok-lists.ensures.none
    (λ conflict. c.in_ok-transform.ensures.no_conflict (subst (λ (es : List Entry). HasTransitiveConflict (graph_uses c.args.graph.now) es) (sym c.in_ok-lists.ensures.exports) conflict)) error cause

pub returns-clause-valid : goal.returns-clause-valid
returns-clause-valid c =
    let there : slice_get c.args.graph.now.worlds c.args.world ≡ Some c.at.result.now = subst (λ (i : ℕ). slice_get c.args.graph.now.worlds i ≡ Some c.at.result.now) c.index.ensures c.at.ensures in
    let out = option_map string_bytes c.args.out in
    let named = c.in_ok-name.ensures.ok in
    let same : named.0 ≡ c.at.result.now = same_at c.args.graph.now.worlds c.args.world c.args.world named.0 c.at.result.now refl named.1 there in
    let name : c.in_ok-name.name ≡ (exportized c.args.answers.now out c.at.result.now).name = named.2 ∙ ap (λ (x : World). (exportized c.args.answers.now out x).name) same in
    let transform : WorldLists = record { name = c.in_ok-name.name; imports = c.in_ok-lists.lists.imports; exports = c.in_ok-lists.lists.exports } in
    let turn_is : transform ≡ exportized c.args.answers.now out c.at.result.now = λ i. record { name = name i; imports = c.in_ok-lists.ensures.imports i; exports = c.in_ok-lists.ensures.exports i } in
    let made : c.transform.new.graph ≡ transformed c.args.graph.now c.args.world (exportized c.args.answers.now out) =
    c.in_ok-transform.ensures.ok ∙ transformed_same c.args.graph.now c.args.world c.at.result.now transform (exportized c.args.answers.now out) there turn_is in
    subst IsValid (sym made)
    (c.exportized_stay_valid.ensures c.args.graph.now c.args.world c.args.answers.now out c.requires.valid c.requires.answers
    (λ error cause.
    exportize_clear c.args.graph.now c.args.world c.at.result.now c.args.answers.now out there (subst (NameIsFreeAt c.args.graph.now c.args.world) name c.in_ok-name.ensures.free) c.in_ok-lists.ensures.none
    (λ conflict. c.in_ok-transform.ensures.no_conflict (subst (λ (es : List Entry). HasTransitiveConflict (graph_uses c.args.graph.now) es) (sym c.in_ok-lists.ensures.exports) conflict)) error cause))

pub returns-clause-ok : goal.returns-clause-ok
returns-clause-ok c =
    let there : slice_get c.args.graph.now.worlds c.args.world ≡ Some c.at.result.now = subst (λ (i : ℕ). slice_get c.args.graph.now.worlds i ≡ Some c.at.result.now) c.index.ensures c.at.ensures in
    let out = option_map string_bytes c.args.out in
    let named = c.in_ok-name.ensures.ok in
    let same : named.0 ≡ c.at.result.now = same_at c.args.graph.now.worlds c.args.world c.args.world named.0 c.at.result.now refl named.1 there in
    let name : c.in_ok-name.name ≡ (exportized c.args.answers.now out c.at.result.now).name = named.2 ∙ ap (λ (x : World). (exportized c.args.answers.now out x).name) same in
    let transform : WorldLists = record { name = c.in_ok-name.name; imports = c.in_ok-lists.lists.imports; exports = c.in_ok-lists.lists.exports } in
    let turn_is : transform ≡ exportized c.args.answers.now out c.at.result.now = λ i. record { name = name i; imports = c.in_ok-lists.ensures.imports i; exports = c.in_ok-lists.ensures.exports i } in
    c.in_ok-transform.ensures.ok ∙ transformed_same c.args.graph.now c.args.world c.at.result.now transform (exportized c.args.answers.now out) there turn_is
