use Rattle.std.proofs.Common.{◌≡◌, ◌∙◌, ◌++◌, ◌≤◌, ◌<◌, ◌+◌, ℕ, None, get_or, length, map, refl, sym, ap, arith}
use Rattle.std.specs.List.{enumerate_from}
use Rattle.std.specs.Option.{option_map_or}
use Rattle.wit_link_spec.specs.facts.RangeFacts.{range-inside, range-read}
use Rattle.wit_merge_spec.specs.Matches.{counterpart_of}
use Rattle.wit_merge.specs.steps.MergeSteps.{first_from, merging_of, placed_at}
use Rattle.wit_merge.proofs.Numbered.{all_behind, behind, made_all, made_next}
use Rattle.wit_merge.proofs.CounterpartSteps.{counterpart_is, is_matched}
use Rattle.wit_merge.proofs.parts.join_all.Goals as goal

pub loop-index-init : goal.loop-index-init
loop-index-init g c =
    let made = λ (e : ℕ × g.row.T.Denot). option_map_or (λ (p : ℕ × g.row.T.Denot). g.T.Part.with_matched (merging_of c.args.plan.now) p e.1) (counterpart_of (λ x. get_or c.args.found.now x None) c.args.others.now e.0) e.1 in
    ap (λ l. l ++ map made (behind c.args.ours.now 0)) c.new-made.ensures ∙ ap (map made) (all_behind c.args.ours.now)

pub at-place-requires : goal.at-place-requires
at-place-requires g c =
    let below : c.loop-index.index < c.len.result = let low = c.loop-index-test.true in let one = c.len-index-end.ensures in let two = c.len.ensures in omega arith in
    range-inside (first_from 0 c.args.found.now) c.len.result c.loop-index.index c.in_ok-counterparts.counterparts c.in_ok-counterparts.ensures below

pub join_one-requires-clause-can : goal.join_one-requires-clause-can
join_one-requires-clause-can g c x from place there =
    let told : c.at-place.result.now ≡ first_from 0 c.args.found.now c.loop-index.index =
    range-read (first_from 0 c.args.found.now) c.len.result c.loop-index.index c.in_ok-counterparts.counterparts c.at-place.result.now c.in_ok-counterparts.ensures c.at-place.ensures in
    c.requires.can x c.loop-index.index from c.at-into.result.now there (is_matched c.args.found.now c.loop-index.index x (sym told ∙ place)) c.at-into.ensures

pub loop-index-preserved : goal.loop-index-preserved
loop-index-preserved g c =
    let others = c.args.others.now in
    let found = c.args.found.now in
    let k : ℕ = c.loop-index.index in
    let with_matched = λ (into : g.row.T.Denot). λ (p : ℕ × g.row.T.Denot). g.T.Part.with_matched (merging_of c.args.plan.now) p into in
    let made = λ (e : ℕ × g.row.T.Denot). option_map_or (with_matched e.1) (counterpart_of (λ x. get_or found x None) others e.0) e.1 in
    let told : c.at-place.result.now ≡ first_from 0 found k = range-read (first_from 0 found) c.len.result k c.in_ok-counterparts.counterparts c.at-place.result.now c.in_ok-counterparts.ensures c.at-place.ensures in
    let into = c.at-into.result.now in
    let is = c.in_ok-join_one.ensures ∙ ap (λ o. option_map_or (with_matched into) o into) (ap (placed_at others) told ∙ counterpart_is found others c.requires.long k) in
    made_next c.args.ours.now made k (k + 1) into c.loop-index.made c.push.new.self (map made (enumerate_from 0 c.args.ours.now)) c.in_ok-join_one.field-0 refl c.at-into.ensures c.loop-index.invariant c.in_ok-push.ensures.ok is

pub returns : goal.returns
returns g c =
    let made = λ (e : ℕ × g.row.T.Denot). option_map_or (λ (p : ℕ × g.row.T.Denot). g.T.Part.with_matched (merging_of c.args.plan.now) p e.1) (counterpart_of (λ x. get_or c.args.found.now x None) c.args.others.now e.0) e.1 in
    let past : length c.args.ours.now ≤ c.loop-index.index = let over = c.loop-index-test.false in let long = c.len-index-end.ensures in omega arith in
    made_all c.args.ours.now made c.loop-index.index c.loop-index.made (map made (enumerate_from 0 c.args.ours.now)) past c.loop-index.invariant
