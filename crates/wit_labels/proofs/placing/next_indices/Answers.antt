use Rattle.std.proofs.Common.{◌≡◌, ◌∙◌, ◌-◌, ℕ, suc, length, get_or, slice_set, unwrap_or, ap, subst, arith}
use Rattle.std.proofs.lemmas.Option.{slice_get_within}
use Rattle.wit_labels.proofs.OrderSteps.{ring-next}
use Rattle.wit_labels.proofs.placing.next_indices.Goals as goal

pub loop-index-preserved : goal.loop-index-preserved
loop-index-preserved c =
    let getters = c.args.getters.now in
    let k : ℕ = c.loop-index.index - 1 in
    let more : c.loop-index.index ≡ suc k = let some = c.loop-index-test.true in omega arith in
    let before : c.unwrap_or.result ≡ unwrap_or c.at.result.now (length getters) = c.unwrap_or.ensures ∙ ap (unwrap_or c.at.result.now) c.len-end.ensures in
    ring-next getters c.loop-index.index k c.at.result.now c.loop-index.next c.put_after.new.next more (slice_get_within getters k c.at.result.now c.at.ensures) c.at.ensures c.requires c.loop-index.invariant
    (subst (λ (b : ℕ). c.put_after.new.next ≡ slice_set (slice_set c.loop-index.next b k) k (get_or c.loop-index.next b 0)) before c.put_after.ensures)
