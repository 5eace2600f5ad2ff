use Rattle.std.proofs.Common.{rules, ◌≡◌, ◌∙◌, ◌+◌, suc, slice_get, drop, refl, ap, arith}
use Rattle.std.specs.Slice.Iter.{iter_rest}
use Rattle.wit_remap_spec.specs.Selected.{selected}
use Rattle.wit_link_spec.specs.steps.NewThings.{is_from, is_new}
use Rattle.wit_remap.proofs.Turns.{kept_by_place, at_place, after}
use Rattle.wit_remap.proofs.part.selected.Goals as goal

pub returns : goal.returns
returns g c =
    let whole = c.args.new_ids.now in
    let first = c.args.first.now in
    c.from_vec.ensures
    ∙ kept_by_place _ (is_new first whole) (λ i p. (p.1.now ≡ first) × (iter_rest p.0 ≡ drop i whole))
    (λ i p x b q here call.
    let answer : b ≡ is_from p.1.now (slice_get (iter_rest p.0) 0) = search rules in
    let rest : iter_rest q.0 ≡ drop 1 (iter_rest p.0) = search rules in
    let same : q.1.now ≡ p.1.now = search rules in
    let left = here.1 in
    let next : suc i ≡ i + 1 = omega arith in
    (answer ∙ ap (λ n. is_from n (slice_get (iter_rest p.0) 0)) here.0 ∙ ap (λ l. is_from first (slice_get l 0)) left ∙ ap (is_from first) (at_place i whole), (same ∙ here.0, rest ∙ ap (drop 1) left ∙ after i whole ∙ ap (λ n. drop n whole) next)))
    _ _ _ (refl, c.iter-new_ids.ensures.rest) c.retain.ensures.filtered
    ∙ ap (selected (is_new first whole)) c.into_vec-items.ensures
