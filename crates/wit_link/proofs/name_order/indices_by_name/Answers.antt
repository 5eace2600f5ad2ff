use Rattle.std.proofs.Common.{◌≡◌, ◌∙◌, List, Some, ap, refl, slice_get, subst, sym, length, arith}
use Rattle.std.proofs.lemmas.List.{length-map, take_all}
use Rattle.std.proofs.lemmas.Option.{slice_get_read}
use Rattle.std.specs.Map.{lookup}
use Rattle.wit_values.specs.facts.Lists.{take-next_at}
use Rattle.wit_names.specs.PackageName.{same_package}
use Rattle.wit_link.specs.GroupOrder.{Unresolved, names_of}
use Rattle.wit_link.specs.steps.GroupOrderSteps.{indices_of_names}
use Rattle.wit_link.proofs.NameOrders.{found_before, length-places, places-at}
use Rattle.wit_link.proofs.Orders.{slice_get-map}
use Rattle.wit_link.proofs.name_order.indices_by_name.Goals as goal

pub defined_twice-requires-clause-before : goal.defined_twice-requires-clause-before
defined_twice-requires-clause-before c =
    let names = names_of c.args.unresolved.now in
    let name = c.entry-item.result.0.name in
    (found_before names c.loop-place.place name c.in-Some.earlier.now (sym (c.in-Some.ensures ∙ ap (lookup (same_package name)) c.loop-place.invariant))).0

pub defined_twice-requires-clause-same : goal.defined_twice-requires-clause-same
defined_twice-requires-clause-same c =
    let names = names_of c.args.unresolved.now in
    let name = c.entry-item.result.0.name in
    (found_before names c.loop-place.place name c.in-Some.earlier.now (sym (c.in-Some.ensures ∙ ap (lookup (same_package name)) c.loop-place.invariant))).1
    ∙ sym (slice_get-map (λ (p : Unresolved). p.0.name) c.args.unresolved.now c.loop-place.place c.entry-item.result (subst (λ (us : List Unresolved). slice_get us c.loop-place.place ≡ Some c.entry-item.result) c.as_slice-entry-items.ensures (slice_get_read c.as_slice-entry-items.result.now _ c.loop-place.place c.entry-item.result refl c.loop-place-test.true c.entry-item.is)))

pub loop-place-preserved : goal.loop-place-preserved
loop-place-preserved c =
    let names = names_of c.args.unresolved.now in
    let at = slice_get-map (λ (p : Unresolved). p.0.name) c.args.unresolved.now c.loop-place.place c.entry-item.result (subst (λ (us : List Unresolved). slice_get us c.loop-place.place ≡ Some c.entry-item.result) c.as_slice-entry-items.ensures (slice_get_read c.as_slice-entry-items.result.now _ c.loop-place.place c.entry-item.result refl c.loop-place-test.true c.entry-item.is)) in
    rw (c.in_ok-push.ensures.ok, c.loop-place.invariant, c.in_ok-try_clone.ensures)
    (sym (take-next_at (indices_of_names names) c.loop-place.place (c.entry-item.result.0.name, c.loop-place.place) (places-at names c.loop-place.place c.entry-item.result.0.name at)))

pub returns-clause-ok : goal.returns-clause-ok
returns-clause-ok c =
    let names = names_of c.args.unresolved.now in
    let long = length-places names in
    let wide : length names ≡ length c.args.unresolved.now = length-map c.args.unresolved.now (λ (p : Unresolved). p.0.name) in
    c.loop-place.invariant ∙ take_all c.loop-place.place (indices_of_names names) (omega (arith, long, wide, c.loop-place-test.false, ap length c.as_slice-entry-items.ensures))
