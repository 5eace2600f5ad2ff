use Rattle.std.proofs.Common.{◌∙◌, ◌++◌, ◌∷◌, [], List, ℕ, ap, sym, take}
use Rattle.std.proofs.lemmas.List.{take_all, take_more}
use Rattle.wit_queries.proofs.package_deps.package_ids.Goals as goal

pub loop-place-preserved : goal.loop-place-preserved
loop-place-preserved c =
    c.in_ok-push.ensures.items ∙ ap (λ (is : List ℕ). is ++ c.from_index.result ∷ []) c.loop-place.invariant
    ∙ ap (λ (i : ℕ). take c.loop-place.place-index c.args.places.now ++ i ∷ []) c.from_index.ensures
    ∙ sym (take_more c.args.places.now c.loop-place.place-index 0 c.loop-place-test.true)

pub returns : goal.returns
returns c = c.loop-place.invariant ∙ take_all c.loop-place.place-index c.args.places.now c.loop-place-test.false
