use Rattle.std.proofs.Common.{◌∙◌, ◌<◌, ℕ, sym, subst, below_more, arith, Contains}
use Rattle.std.proofs.lemmas.Bool.{false≢true}
use Rattle.std.proofs.lemmas.List.{get_or_default}
use Rattle.wit_queries.proofs.futures.has_any.Goals as goal

pub loop-place-preserved : goal.loop-place-preserved
loop-place-preserved c = below_more _ _ c.loop-place.invariant (λ marked. false≢true (sym c.if-has.false ∙ c.has.ensures.1 marked))

pub returns : goal.returns
returns c = λ same t has marked.
    let within : has.0 < c.loop-place.place-index = omega (arith, has.1) in
    c.loop-place.invariant has.0 within
    (subst (λ (u : ℕ). Contains c.args.marked.now.order u) (sym has.2 ∙ get_or_default c.args.places.now has.0 t 0 has.1) marked)
