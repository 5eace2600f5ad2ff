use Rattle.std.proofs.Common.{◌≡◌, ◌∙◌, ◌⊎◌, slice_get, refl, ap, sym, subst, IfErr, IfOk, OnOk, Ok, Err, Result}
use Rattle.wit_graph_data.specs.facts.ResultFacts.{residual_error}
use Rattle.wit_graph_data.specs.declared.error_kind.ResolveErrorKind.{ResolveErrorKind}
use Rattle.wit_graph_data.specs.declared.error_kind.ResolveErrorKind.TheVariants.{OutOfMemory}
use Rattle.wit_data.specs.declared.world.World.{World}
use Rattle.wit_link_spec.specs.Include.{is_other_package}
use Rattle.wit_link_spec.specs.WorldReasons.{IsCauseOfInclude}
use Rattle.wit_link_spec.specs.steps.Parts.{before_includes}
use Rattle.wit_link_include.specs.steps.Included.{maps_of, copied_entries}
use Rattle.wit_remap.specs.facts.GrownFacts.{Grown-same}
use Rattle.wit_link_include.proofs.IncludeSteps.{step_is, names_cause, stay_apart, step_cause, step_exports_once, step_fine, step_graph, step_imports_once, step_world}
use Rattle.wit_link_include.proofs.NamesThere.{names_there}
use Rattle.wit_link_include.proofs.including.include.Goals as goal

on_ok : {T E : Type 0} {P : Type 0} (r : Result T E) → P → OnOk r P
on_ok (Ok v) p = p
on_ok (Err e) p = tt

on_ok_two : {T E : Type 0} {P Q R : Type 0} (r : Result T E) → OnOk r P → OnOk r Q → (P → Q → R) → OnOk r R
on_ok_two (Ok v) p q gives = gives p q
on_ok_two (Err e) p q gives = tt

if_ok : {T E : Type 0} {P Q : T → Type 0} (r : Result T E) → IfOk r P → ((x : T) → P x → Q x) → IfOk r Q
if_ok (Ok v) p gives = gives v p
if_ok (Err e) p gives = tt

if_err : {T E : Type 0} {P Q : E → Type 0} (r : Result T E) → IfErr r P → ((e : E) → P e → Q e) → IfErr r Q
if_err (Ok v) p gives = tt
if_err (Err e) p gives = gives e p

pub returns-in_err-check_names-clause-cause : goal.returns-in_err-check_names-clause-cause
returns-in_err-check_names-clause-cause c =
    let at = ap (slice_get c.args.graph.now.worlds) (sym c.index.ensures) ∙ c.at-included.ensures in
    residual_error c.from_residual.result c.from_residual.ensures.1
    (λ e is.
    let same : e ≡ c.in_err-check_names.field-0.0 = is in
    subst (λ (x : ResolveErrorKind). (x ≡ OutOfMemory) ⊎ IsCauseOfInclude c.args.home (before_includes c.args.graph.now c.args.world) c.args.include.now x) (sym same)
    (names_cause c.args.graph.now c.args.include.now c.args.home c.args.world c.at-included.result.now c.in_err-check_names.field-0.0 at c.in_err-check_names.ensures.cause))

pub add_copies-requires-clause-named : goal.add_copies-requires-clause-named
add_copies-requires-clause-named c = λ (old : World) at. names_there c.args.graph.now c.args.include.now.id old (c.requires.can old at)

pub add_copies-requires-clause-belonging : goal.add_copies-requires-clause-belonging
add_copies-requires-clause-belonging c = λ (old : World) at. (c.requires.can old at).belonging

pub add_copies-requires-clause-apart : goal.add_copies-requires-clause-apart
add_copies-requires-clause-apart c = λ (old : World) at. stay_apart c.args.graph.now c.args.include.now.id old (c.requires.can old at)

pub join_copies-requires-clause-imports : goal.join_copies-requires-clause-imports
join_copies-requires-clause-imports c =
    let g = c.args.graph.now in
    let include = c.args.include.now in
    let old = c.at-included-2.result.now in
    let copies = c.in_ok-copies.copies in
    let at = ap (slice_get g.worlds) (sym c.index.ensures) ∙ c.at-included.ensures in
    let again = ap (slice_get c.add_copies.new.graph.worlds) (sym c.index-2.ensures) ∙ c.at-included-2.ensures in
    let made = c.in_ok-copies.ensures in
    let step =
    step_is g include c.args.home c.from_index-into.result c.at-included.result.now old c.add_copies.new.graph (maps_of copies) copies.from (copied_entries copies old.imports) (copied_entries copies old.exports) (is_other_package old.package c.args.home)
    at (c.requires.can c.at-included.result.now at).world (c.from_index-into.ensures ∙ c.len.ensures) (made.ok c.at-included.result.now at) (made.maps c.at-included.result.now at) made.from again refl refl refl in
    step_imports_once g include c.args.home c.args.world c.add_copies.new.graph (copied_entries copies old.imports) (copied_entries copies old.exports) (is_other_package old.package c.args.home) step

pub join_copies-requires-clause-exports : goal.join_copies-requires-clause-exports
join_copies-requires-clause-exports c =
    let g = c.args.graph.now in
    let include = c.args.include.now in
    let old = c.at-included-2.result.now in
    let copies = c.in_ok-copies.copies in
    let at = ap (slice_get g.worlds) (sym c.index.ensures) ∙ c.at-included.ensures in
    let again = ap (slice_get c.add_copies.new.graph.worlds) (sym c.index-2.ensures) ∙ c.at-included-2.ensures in
    let made = c.in_ok-copies.ensures in
    let step =
    step_is g include c.args.home c.from_index-into.result c.at-included.result.now old c.add_copies.new.graph (maps_of copies) copies.from (copied_entries copies old.imports) (copied_entries copies old.exports) (is_other_package old.package c.args.home)
    at (c.requires.can c.at-included.result.now at).world (c.from_index-into.ensures ∙ c.len.ensures) (made.ok c.at-included.result.now at) (made.maps c.at-included.result.now at) made.from again refl refl refl in
    step_exports_once g include c.args.home c.args.world c.add_copies.new.graph (copied_entries copies old.imports) (copied_entries copies old.exports) (is_other_package old.package c.args.home) step

pub returns-clause-graph : goal.returns-clause-graph
returns-clause-graph c =
    let g = c.args.graph.now in
    let include = c.args.include.now in
    let old = c.at-included-2.result.now in
    let copies = c.in_ok-copies.copies in
    let at = ap (slice_get g.worlds) (sym c.index.ensures) ∙ c.at-included.ensures in
    let again = ap (slice_get c.add_copies.new.graph.worlds) (sym c.index-2.ensures) ∙ c.at-included-2.ensures in
    let made = c.in_ok-copies.ensures in
    let step =
    step_is g include c.args.home c.from_index-into.result c.at-included.result.now old c.add_copies.new.graph (maps_of copies) copies.from (copied_entries copies old.imports) (copied_entries copies old.exports) (is_other_package old.package c.args.home)
    at (c.requires.can c.at-included.result.now at).world (c.from_index-into.ensures ∙ c.len.ensures) (made.ok c.at-included.result.now at) (made.maps c.at-included.result.now at) made.from again refl refl refl in
    on_ok c.join_copies.result (step_graph g include c.args.home c.args.world c.add_copies.new.graph (copied_entries copies old.imports) (copied_entries copies old.exports) (is_other_package old.package c.args.home) step)

pub returns-clause-world : goal.returns-clause-world
returns-clause-world c =
    let g = c.args.graph.now in
    let include = c.args.include.now in
    let old = c.at-included-2.result.now in
    let copies = c.in_ok-copies.copies in
    let at = ap (slice_get g.worlds) (sym c.index.ensures) ∙ c.at-included.ensures in
    let again = ap (slice_get c.add_copies.new.graph.worlds) (sym c.index-2.ensures) ∙ c.at-included-2.ensures in
    let made = c.in_ok-copies.ensures in
    let step =
    step_is g include c.args.home c.from_index-into.result c.at-included.result.now old c.add_copies.new.graph (maps_of copies) copies.from (copied_entries copies old.imports) (copied_entries copies old.exports) (is_other_package old.package c.args.home)
    at (c.requires.can c.at-included.result.now at).world (c.from_index-into.ensures ∙ c.len.ensures) (made.ok c.at-included.result.now at) (made.maps c.at-included.result.now at) made.from again refl refl refl in
    if_ok c.join_copies.result c.join_copies.ensures.ok (step_world g include c.args.home c.args.world c.add_copies.new.graph (copied_entries copies old.imports) (copied_entries copies old.exports) (is_other_package old.package c.args.home) step)

pub returns-clause-fine : goal.returns-clause-fine
returns-clause-fine c =
    let g = c.args.graph.now in
    let include = c.args.include.now in
    let old = c.at-included-2.result.now in
    let copies = c.in_ok-copies.copies in
    let at = ap (slice_get g.worlds) (sym c.index.ensures) ∙ c.at-included.ensures in
    let again = ap (slice_get c.add_copies.new.graph.worlds) (sym c.index-2.ensures) ∙ c.at-included-2.ensures in
    let made = c.in_ok-copies.ensures in
    let step =
    step_is g include c.args.home c.from_index-into.result c.at-included.result.now old c.add_copies.new.graph (maps_of copies) copies.from (copied_entries copies old.imports) (copied_entries copies old.exports) (is_other_package old.package c.args.home)
    at (c.requires.can c.at-included.result.now at).world (c.from_index-into.ensures ∙ c.len.ensures) (made.ok c.at-included.result.now at) (made.maps c.at-included.result.now at) made.from again refl refl refl in
    on_ok_two c.join_copies.result c.join_copies.ensures.imports c.join_copies.ensures.exports (step_fine g include c.args.home c.args.world c.add_copies.new.graph (copied_entries copies old.imports) (copied_entries copies old.exports) (is_other_package old.package c.args.home) step c.at-included.result.now at c.in_ok-check_names.ensures.fine)

pub returns-clause-cause : goal.returns-clause-cause
returns-clause-cause c =
    let g = c.args.graph.now in
    let include = c.args.include.now in
    let old = c.at-included-2.result.now in
    let copies = c.in_ok-copies.copies in
    let at = ap (slice_get g.worlds) (sym c.index.ensures) ∙ c.at-included.ensures in
    let again = ap (slice_get c.add_copies.new.graph.worlds) (sym c.index-2.ensures) ∙ c.at-included-2.ensures in
    let made = c.in_ok-copies.ensures in
    let step =
    step_is g include c.args.home c.from_index-into.result c.at-included.result.now old c.add_copies.new.graph (maps_of copies) copies.from (copied_entries copies old.imports) (copied_entries copies old.exports) (is_other_package old.package c.args.home)
    at (c.requires.can c.at-included.result.now at).world (c.from_index-into.ensures ∙ c.len.ensures) (made.ok c.at-included.result.now at) (made.maps c.at-included.result.now at) made.from again refl refl refl in
    if_err c.join_copies.result c.join_copies.ensures.cause (step_cause g include c.args.home c.args.world c.add_copies.new.graph (copied_entries copies old.imports) (copied_entries copies old.exports) (is_other_package old.package c.args.home) step c.requires.own_keys)

pub returns-in_err-check_names-clause-grown : goal.returns-in_err-check_names-clause-grown
returns-in_err-check_names-clause-grown c = Grown-same c.args.graph.now

pub returns-clause-grown : goal.returns-clause-grown
returns-clause-grown c = c.add_copies.ensures.grown
