use Rattle.std.proofs.Common.{◌≡◌, ◌∙◌, ◌⊎◌, inl, inr, ℕ, List, [], Some, length, slice_get, string_bytes, refl, sym, ap, subst}
use Rattle.std.specs.Option.{option_map}
use Rattle.wit_data.specs.declared.world.World.{World}
use Rattle.wit_graph_data.specs.facts.ResultFacts.{residual_error}
use Rattle.wit_elaboration.specs.Entries.{Entry}
use Rattle.wit_elaboration.specs.Sound.{HasSoundEntries}
use Rattle.wit_elaboration.specs.Valid.{IsValid}
use Rattle.wit_graph_data.specs.declared.error_kind.ResolveErrorKind.{ResolveErrorKind}
use Rattle.wit_graph_data.specs.declared.error_kind.ResolveErrorKind.TheVariants.{OutOfMemory}
use Rattle.wit_graph_theory.specs.facts.ListFacts.{same_at}
use Rattle.wit_transform.proofs.Accepted.{under_labels}
use Rattle.wit_transform.proofs.TransformSteps.{has_home, importize_clear, importized_in_order, transformed_same}
use Rattle.wit_transform.specs.Transformed.{IsImportizeCause, importized_name_taken, label_clash, WorldLists, importized, transformed}
use Rattle.wit_transform.specs.steps.Transformed.{NameIsFreeAt}
use Rattle.wit_transform.proofs.transformations.importize_with.Goals as goal

pub free_name-requires : goal.free_name-requires
free_name-requires c = record { world = has_home c.args.graph.now c.requires.valid c.args.world c.requires.world }

pub returns-in_err-name-clause-cause : goal.returns-in_err-name-clause-cause
returns-in_err-name-clause-cause c =
    residual_error c.from_residual.result c.from_residual.ensures.1
    (λ e is.
    let same : e ≡ c.in_err-name.field-0.0 = is in
    subst (λ (x : ResolveErrorKind). (x ≡ OutOfMemory) ⊎ IsImportizeCause c.args.graph.now c.args.world (option_map string_bytes c.args.out) x) (sym same)
    (elim c.in_err-name.ensures.cause [
      | inl memory ↦ inl memory
      | inr taken ↦ inr (taken.0, taken.2, importized_name_taken taken.1 taken.3 taken.4)
    ]))

pub returns-in_err-lists-clause-cause : goal.returns-in_err-lists-clause-cause
returns-in_err-lists-clause-cause c =
    let there : slice_get c.args.graph.now.worlds c.args.world ≡ Some c.at.result.now = subst (λ (i : ℕ). slice_get c.args.graph.now.worlds i ≡ Some c.at.result.now) c.index.ensures c.at.ensures in
    residual_error c.from_residual-in_err-lists.result c.from_residual-in_err-lists.ensures.1
    (λ e is.
    let same : e ≡ c.in_err-lists.field-0.0 = is in
    subst (λ (x : ResolveErrorKind). (x ≡ OutOfMemory) ⊎ IsImportizeCause c.args.graph.now c.args.world (option_map string_bytes c.args.out) x) (sym same)
    (elim c.in_err-lists.ensures.cause [
      | inl memory ↦ inl memory
      | inr told ↦ inr (c.at.result.now, there, label_clash told.0 told.1 told.2)
    ]))

pub transform-requires-clause-tables : goal.transform-requires-clause-tables
transform-requires-clause-tables c = c.requires.valid.well_formed.tables

pub importized_lists-requires : goal.importized_lists-requires
importized_lists-requires c =
    let there : slice_get c.args.graph.now.worlds c.args.world ≡ Some c.at.result.now = subst (λ (i : ℕ). slice_get c.args.graph.now.worlds i ≡ Some c.at.result.now) c.index.ensures c.at.ensures in
    under_labels c.args.graph.now c.requires.valid c.args.world c.at.result.now there

pub transform-requires-clause-listed : goal.transform-requires-clause-listed
transform-requires-clause-listed c =
    let there : slice_get c.args.graph.now.worlds c.args.world ≡ Some c.at.result.now = subst (λ (i : ℕ). slice_get c.args.graph.now.worlds i ≡ Some c.at.result.now) c.index.ensures c.at.ensures in
    let order = importized_in_order c.args.graph.now c.requires.valid c.args.world c.at.result.now (option_map string_bytes c.args.out) there c.in_ok-lists.ensures.no_clash in
    subst (λ (es : List Entry). HasSoundEntries c.args.graph.now.types (length c.args.graph.now.interfaces) c.in_ok-lists.lists.imports es) (sym c.in_ok-lists.ensures.exports)
    (subst (λ (es : List Entry). HasSoundEntries c.args.graph.now.types (length c.args.graph.now.interfaces) es []) (sym c.in_ok-lists.ensures.imports) order)

pub returns-clause-refuses : goal.returns-clause-refuses
returns-clause-refuses c =
    λ error cause.
    let there : slice_get c.args.graph.now.worlds c.args.world ≡ Some c.at.result.now = subst (λ (i : ℕ). slice_get c.args.graph.now.worlds i ≡ Some c.at.result.now) c.index.ensures c.at.ensures in
    let named = c.in_ok-name.ensures.ok in
    let same : named.0 ≡ c.at.result.now = same_at c.args.graph.now.worlds c.args.world c.args.world named.0 c.at.result.now refl named.1 there in
    let name : c.in_ok-name.name ≡ (importized (option_map string_bytes c.args.out) c.at.result.now).name = named.2 ∙ ap (λ (x : World). (importized (option_map string_bytes c.args.out) x).name) same in
    importize_clear c.args.graph.now c.args.world c.at.result.now (option_map string_bytes c.args.out) there (subst (NameIsFreeAt c.args.graph.now c.args.world) name c.in_ok-name.ensures.free) c.in_ok-lists.ensures.no_clash error cause

pub returns-clause-valid : goal.returns-clause-valid
returns-clause-valid c =
    let there : slice_get c.args.graph.now.worlds c.args.world ≡ Some c.at.result.now = subst (λ (i : ℕ). slice_get c.args.graph.now.worlds i ≡ Some c.at.result.now) c.index.ensures c.at.ensures in
    let out = option_map string_bytes c.args.out in
    let named = c.in_ok-name.ensures.ok in
    let same : named.0 ≡ c.at.result.now = same_at c.args.graph.now.worlds c.args.world c.args.world named.0 c.at.result.now refl named.1 there in
    let name : c.in_ok-name.name ≡ (importized out c.at.result.now).name = named.2 ∙ ap (λ (x : World). (importized out x).name) same in
    let transform : WorldLists = record { name = c.in_ok-name.name; imports = c.in_ok-lists.lists.imports; exports = c.in_ok-lists.lists.exports } in
    let turn_is : transform ≡ importized out c.at.result.now = λ i. record { name = name i; imports = c.in_ok-lists.ensures.imports i; exports = c.in_ok-lists.ensures.exports i } in
    let made : c.transform.new.graph ≡ transformed c.args.graph.now c.args.world (importized out) = c.in_ok-transform.ensures.ok ∙ transformed_same c.args.graph.now c.args.world c.at.result.now transform (importized out) there turn_is in
    subst IsValid (sym made)
    (c.importized_stay_valid.ensures c.args.graph.now c.args.world out c.requires.valid
    (λ error cause. importize_clear c.args.graph.now c.args.world c.at.result.now out there (subst (NameIsFreeAt c.args.graph.now c.args.world) name c.in_ok-name.ensures.free) c.in_ok-lists.ensures.no_clash error cause))

pub returns-clause-ok : goal.returns-clause-ok
returns-clause-ok c =
    let there : slice_get c.args.graph.now.worlds c.args.world ≡ Some c.at.result.now = subst (λ (i : ℕ). slice_get c.args.graph.now.worlds i ≡ Some c.at.result.now) c.index.ensures c.at.ensures in
    let out = option_map string_bytes c.args.out in
    let named = c.in_ok-name.ensures.ok in
    let same : named.0 ≡ c.at.result.now = same_at c.args.graph.now.worlds c.args.world c.args.world named.0 c.at.result.now refl named.1 there in
    let name : c.in_ok-name.name ≡ (importized out c.at.result.now).name = named.2 ∙ ap (λ (x : World). (importized out x).name) same in
    let transform : WorldLists = record { name = c.in_ok-name.name; imports = c.in_ok-lists.lists.imports; exports = c.in_ok-lists.lists.exports } in
    let turn_is : transform ≡ importized out c.at.result.now = λ i. record { name = name i; imports = c.in_ok-lists.ensures.imports i; exports = c.in_ok-lists.ensures.exports i } in
    c.in_ok-transform.ensures.ok ∙ transformed_same c.args.graph.now c.args.world c.at.result.now transform (importized out) there turn_is
