use Rattle.std.proofs.Common.{◌≡◌, ◌∙◌, ◌++◌, ◌∷◌, [], List, ℕ, ap, sym, map, take, length, refl, slice_get, subst, Some, arith}
use Rattle.std.proofs.lemmas.Option.{slice_get_read}
use Rattle.std.proofs.lemmas.List.{take_all}
use Rattle.wit_values.specs.facts.Lists.{map-next}
use Rattle.wit_link.specs.GroupOrder.{Unresolved, names_of}
use Rattle.wit_link.specs.steps.GroupOrderSteps.{found_deps}
use Rattle.wit_link.proofs.Orders.{found_deps-are}
use Rattle.wit_link.proofs.depends.uses_of_group.Goals as goal
use Rattle.wit_link.specs.steps.Parts.{group_deps}

pub loop-entry-preserved : goal.loop-entry-preserved
loop-entry-preserved c =
    let unresolved = c.args.unresolved.now in
    let f : Unresolved → List ℕ = λ (p : Unresolved). group_deps (names_of unresolved) p.0 in
    let at : slice_get unresolved c.loop-entry.entry-index ≡ Some c.entry-item.result =
    subst (λ (us : List Unresolved). slice_get us c.loop-entry.entry-index ≡ Some c.entry-item.result) c.as_slice-entry-items.ensures (slice_get_read c.as_slice-entry-items.result.now _ c.loop-entry.entry-index c.entry-item.result refl c.loop-entry-test.true c.entry-item.is) in
    let row : c.in_ok-deps_of.field-0 ≡ f c.entry-item.result = c.in_ok-deps_of.ensures ∙ ap (λ places. found_deps places c.entry-item.result.0) c.requires ∙ found_deps-are (names_of unresolved) c.entry-item.result.0 in
    c.in_ok-push.ensures.ok ∙ ap (λ (rows : List (List ℕ)). rows ++ c.in_ok-deps_of.field-0 ∷ []) c.loop-entry.invariant
    ∙ ap (λ (r : List ℕ). map f (take c.loop-entry.entry-index unresolved) ++ r ∷ []) row ∙ sym (map-next f unresolved c.loop-entry.entry-index c.entry-item.result at)

pub returns : goal.returns
returns c =
    c.loop-entry.invariant
    ∙ ap (map (λ (p : Unresolved). group_deps (names_of c.args.unresolved.now) p.0)) (take_all c.loop-entry.entry-index c.args.unresolved.now (omega (arith, c.loop-entry-test.false, ap length c.as_slice-entry-items.ensures)))
