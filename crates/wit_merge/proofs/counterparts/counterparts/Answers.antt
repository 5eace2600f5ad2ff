use Rattle.std.proofs.Common.{rules, ◌≡◌, ◌∙◌, ◌<◌, ◌≤◌, ◌-◌, ℕ, suc, length, None, Some, replicate, ap, sym, subst, arith, drop}
use Rattle.std.proofs.lemmas.List.FromFn.{length-map-range_with_len}
use Rattle.wit_merge.specs.steps.MergeSteps.{first_from}
use Rattle.wit_merge.proofs.CounterpartSteps.{none_yet, one_counted, one_past, one_unmatched}
use Rattle.wit_merge.proofs.counterparts.counterparts.Goals as goal

pub loop-index-init : goal.loop-index-init
loop-index-init g c =
    let empty : c.in_ok-vec.field-0.items ≡ replicate c.args.count None = search rules in
    c.from_vec-counterparts.ensures ∙ (empty ∙ none_yet c.args.found.now c.len-index.result c.args.count c.len-index.ensures)

pub set-requires : goal.set-requires
set-requires g c =
    let long = ap length c.loop-index.invariant ∙ length-map-range_with_len (first_from c.loop-index.index (drop c.loop-index.index c.args.found.now)) 0 c.args.count in
    subst (λ (n : ℕ). c.index-place.result < n) (sym long) c.if-place-count.true

pub loop-index-preserved-then-place-count : goal.loop-index-preserved-then-place-count
loop-index-preserved-then-place-count g c =
    let k : ℕ = c.loop-index.index - 1 in
    let next : c.loop-index.index ≡ suc k = let some = c.loop-index-test.true in omega arith in
    one_counted c.args.found.now k c.loop-index.index c.args.count c.in-Some.id c.index-place.result c.loop-index.counterparts c.set.new.self next (c.at.ensures ∙ ap Some c.in-Some.is)
    (c.index-place.ensures ∙ c.in_ok-try_clone.ensures) c.if-place-count.true c.loop-index.invariant c.set.ensures

pub loop-index-preserved-else-place-count : goal.loop-index-preserved-else-place-count
loop-index-preserved-else-place-count g c =
    let k : ℕ = c.loop-index.index - 1 in
    let next : c.loop-index.index ≡ suc k = let some = c.loop-index-test.true in omega arith in
    let past : c.args.count ≤ c.index-place.result = let not = c.if-place-count.false in omega arith in
    one_past c.args.found.now k c.loop-index.index c.args.count c.in-Some.id c.index-place.result c.loop-index.counterparts next (c.at.ensures ∙ ap Some c.in-Some.is)
    (c.index-place.ensures ∙ c.in_ok-try_clone.ensures) past c.loop-index.invariant

pub loop-index-preserved : goal.loop-index-preserved
loop-index-preserved g c =
    let k : ℕ = c.loop-index.index - 1 in
    let next : c.loop-index.index ≡ suc k = let some = c.loop-index-test.true in omega arith in
    one_unmatched c.args.found.now k c.loop-index.index c.args.count c.loop-index.counterparts next (c.at.ensures ∙ ap Some c.in_default.is) c.loop-index.invariant
