use Rattle.std.proofs.Common.{◌≡◌, ◌∙◌, ℕ, inr, true, false, subst, sym, IfOk, OnOk, Result, Ok, Err}
use Rattle.std.specs.Result.{is_err}
use Rattle.wit_graph_data.specs.declared.graph.Graph.{Graph}
use Rattle.wit_graph_data.specs.declared.error_kind.ResolveErrorKind.{ResolveErrorKind}
use Rattle.wit_link_spec.specs.Cause.{IsAdditionCause}
use Rattle.wit_link_spec.specs.Addition.{Addition}
use Rattle.wit_elaboration.specs.Valid.{IsValid}
use Rattle.wit_remap.specs.Grown.{Grown}
use Rattle.wit_remap.specs.facts.GrownFacts.{Grown-same}
use Rattle.wit_link.specs.Caches.{AreCachesOf, HaveGrown}
use Rattle.wit_link.specs.declared.caches.GraphCaches.{GraphCaches}
use Rattle.wit_link.specs.facts.CachesFacts.{caches_with_met, grown_by_met, grown_by_rows, grown_same}
use Rattle.wit_link_resources.specs.facts.MetTypes.{right_stays}
use Rattle.wit_link.specs.Appending.{IsAdded, addition}
use Rattle.wit_link.specs.steps.Checked.{PackageFits}
use Rattle.wit_link.proofs.Added.{is_new, taken, too_far}
use Rattle.wit_link.proofs.adding.append_with.Goals as goal

pub returns-then-contains_key-clause-cause : goal.returns-then-contains_key-clause-cause
returns-then-contains_key-clause-cause c =
    taken (addition c.args.features.now c.args.graph.now c.args.package c.args.span_offset) c.ranges.span_offset.fits (sym c.contains_key.ensures ∙ c.if-contains_key.true) c.name_taken.result c.name_taken.ensures

pub returns-then-not-spans_fit-clause-cause : goal.returns-then-not-spans_fit-clause-cause
returns-then-not-spans_fit-clause-cause c =
    let a = addition c.args.features.now c.args.graph.now c.args.package c.args.span_offset in
    let not_fitting : PackageFits c.args.span_offset c.args.package → ⊥ = λ fits. let yes : c.spans_fit.result ≡ true = c.spans_fit.ensures.1 fits in let fails : c.spans_fit.result ≡ false = c.if-not-spans_fit.true in cc in
    inr (subst (IsAdditionCause a) (sym c.from.ensures) (too_far a c.ranges.span_offset.fits not_fitting))

pub check-requires-clause-fits : goal.check-requires-clause-fits
check-requires-clause-fits c =
    (is_new (addition c.args.features.now c.args.graph.now c.args.package c.args.span_offset) (sym c.contains_key.ensures ∙ c.if-contains_key.false) (c.spans_fit.ensures.0 c.if-not-spans_fit.false)).fits

pub add_checked-added-requires-clause-new : goal.add_checked-added-requires-clause-new
add_checked-added-requires-clause-new c =
    is_new (addition c.args.features.now c.args.graph.now c.args.package c.args.span_offset) (sym c.contains_key.ensures ∙ c.if-contains_key.false) (c.spans_fit.ensures.0 c.if-not-spans_fit.false)

-- what is accepted has no reason to be refused
accepted_not : {E : Type 0} (a : Addition) (new : Graph) (r : Result ℕ E) → IfOk r (λ id. IsAdded a new id) → (kind : ResolveErrorKind) → IsAdditionCause a kind → OnOk r ⊥
accepted_not a new (Ok id) added kind cause = added.accepted kind cause
accepted_not a new (Err e) added kind cause = tt

pub returns-else-is_err-clause-refuses : goal.returns-else-is_err-clause-refuses
returns-else-is_err-clause-refuses c =
    λ kind cause.
    accepted_not (addition c.args.features.now c.args.graph.now c.args.package c.args.span_offset) c.add_checked-added.new.graph c.add_checked-added.result c.add_checked-added.ensures.ok kind cause

pub returns-then-contains_key-clause-grown : goal.returns-then-contains_key-clause-grown
returns-then-contains_key-clause-grown c = Grown-same c.args.graph.now

pub returns-then-not-spans_fit-clause-grown : goal.returns-then-not-spans_fit-clause-grown
returns-then-not-spans_fit-clause-grown c = Grown-same c.args.graph.now

pub returns-in_err-checked-clause-grown : goal.returns-in_err-checked-clause-grown
returns-in_err-checked-clause-grown c = Grown-same c.args.graph.now

pub returns-then-contains_key-clause-known : goal.returns-then-contains_key-clause-known
returns-then-contains_key-clause-known c = grown_same c.args.caches.now

pub returns-then-not-spans_fit-clause-known : goal.returns-then-not-spans_fit-clause-known
returns-then-not-spans_fit-clause-known c = grown_same c.args.caches.now

pub returns-in_err-checked-clause-caches : goal.returns-in_err-checked-clause-caches
returns-in_err-checked-clause-caches c = caches_with_met c.args.graph.now c.args.caches.now c.check.new.met c.requires.caches c.check.ensures.met

pub returns-in_err-checked-clause-known : goal.returns-in_err-checked-clause-known
returns-in_err-checked-clause-known c = grown_by_met c.args.caches.now c.check.new.met c.check.ensures.met_before

-- after a refusal the graph is cut back to what it was
pub returns-then-is_err-clause-grown : goal.returns-then-is_err-clause-grown
returns-then-is_err-clause-grown c =
    let back = c.cut.ensures.back c.args.graph.now c.of-mark.ensures c.add_checked-added.ensures.grown in
    subst (Grown c.args.graph.now) (sym back) (Grown-same c.args.graph.now)

pub returns-then-is_err-clause-valid : goal.returns-then-is_err-clause-valid
returns-then-is_err-clause-valid c =
    let back = c.cut.ensures.back c.args.graph.now c.of-mark.ensures c.add_checked-added.ensures.grown in
    subst IsValid (sym back) c.requires.valid

pub returns-then-is_err-clause-caches : goal.returns-then-is_err-clause-caches
returns-then-is_err-clause-caches c =
    let back = c.cut.ensures.back c.args.graph.now c.of-mark.ensures c.add_checked-added.ensures.grown in
    let before : GraphCaches = record c.args.caches.now { met = c.check.new.met } in
    let same = c.cut-then-is_err.ensures.back before c.of-known.ensures (grown_by_rows before c.add_checked-added.new.elaborator c.add_checked-added.ensures.rows) in
    subst (λ (g : Graph). AreCachesOf g c.cut-then-is_err.new.caches) (sym back)
    (subst (AreCachesOf c.args.graph.now) (sym same) (caches_with_met c.args.graph.now c.args.caches.now c.check.new.met c.requires.caches c.in_ok-checked.ensures.met))

pub returns-then-is_err-clause-known : goal.returns-then-is_err-clause-known
returns-then-is_err-clause-known c =
    let before : GraphCaches = record c.args.caches.now { met = c.check.new.met } in
    let same = c.cut-then-is_err.ensures.back before c.of-known.ensures (grown_by_rows before c.add_checked-added.new.elaborator c.add_checked-added.ensures.rows) in
    subst (HaveGrown c.args.caches.now) (sym same) (grown_by_met c.args.caches.now c.check.new.met c.in_ok-checked.ensures.met_before)

-- what is added is valid
when_ok : {T E P : Type 0} (r : Result T E) → is_err r ≡ false → OnOk r P → P
when_ok (Ok x) fine p = p
when_ok (Err e) fine p = cc

pub returns-else-is_err-clause-valid : goal.returns-else-is_err-clause-valid
returns-else-is_err-clause-valid c = when_ok c.add_checked-added.result (sym c.is_err.ensures.value ∙ c.if-is_err.false) c.add_checked-added.ensures.valid

pub returns-else-is_err-clause-caches : goal.returns-else-is_err-clause-caches
returns-else-is_err-clause-caches c =
    let fine = sym c.is_err.ensures.value ∙ c.if-is_err.false in
    let valid = when_ok c.add_checked-added.result fine c.add_checked-added.ensures.valid in
    record {
      uses = when_ok c.add_checked-added.result fine c.add_checked-added.ensures.uses;
      met = right_stays c.args.graph.now.types c.add_checked-added.new.graph.types c.check.new.met c.requires.valid.no_cycles.types valid.no_cycles.types c.add_checked-added.ensures.grown.types c.in_ok-checked.ensures.met;
    }

pub returns-else-is_err-clause-known : goal.returns-else-is_err-clause-known
returns-else-is_err-clause-known c = record { rows = c.add_checked-added.ensures.rows; met = c.in_ok-checked.ensures.met_before }
