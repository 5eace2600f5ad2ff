use Rattle.std.proofs.Common.{◌∙◌, ◌++◌, ◌≤◌, ◌<◌, ◌+◌, ℕ, filter, length, map, refl, sym, ap, arith, ◌≡◌, Some, slice_get}
use Rattle.std.proofs.lemmas.Option.{slice_get_read}
use Rattle.wit_remap_spec.specs.Selected.{selected_with_index}
use Rattle.wit_merge_match.specs.steps.Matched.{moves}
use Rattle.wit_merge.specs.steps.MergeSteps.{merging_of}
use Rattle.wit_merge.proofs.Numbered.{all_behind, kept_all, kept_behind, kept_next, left_next}
use Rattle.wit_merge.proofs.parts.move_all.Goals as goal
use Rattle.wit_merge.proofs.parts.move_all.Goals.{then-moves+in_ok-moved+in_ok-push, else-moves}

pub loop-index-init : goal.loop-index-init
loop-index-init g c =
    let image = g.T.Part.image (merging_of c.args.plan.now) in
    let kept = moves c.args.found.now in
    ap (λ l. l ++ map image (kept_behind c.args.others.now kept 0)) c.new-made.ensures ∙ ap (λ es. map image (filter (λ e. kept e.0) es)) (all_behind c.args.others.now)

pub loop-index-preserved : goal.loop-index-preserved
loop-index-preserved g c =
    let image = g.T.Part.image (merging_of c.args.plan.now) in
    let kept = moves c.args.found.now in
    let others = c.args.others.now in
    let k : ℕ = c.loop-index.index in
    let whole = map image (selected_with_index kept others) in
    let other = c.other-item.result in
    let read = slice_get_read c.as_slice-other-items.result.now _ k other refl c.loop-index-test.true c.other-item.is in
    let at : slice_get others k ≡ Some other = rw (sym c.as_slice-other-items.ensures) read in
    elim c.if-moves.branch [
      | then-moves+in_ok-moved+in_ok-push w ↦
          kept_next others image kept k (k + 1) other c.loop-index.made c.if-moves.made whole w.in_ok-moved.field-0 refl at (sym c.moves.ensures ∙ w.if-moves.true) c.loop-index.invariant
          (w.made-is ∙ w.in_ok-push.ensures.ok) (w.in_ok-moved.ensures k)
      | else-moves w ↦
          let low : k < length others = let test = c.loop-index-test.true in let long = ap length c.as_slice-other-items.ensures in omega arith in
          left_next others image kept k (k + 1) c.if-moves.made whole refl low (sym c.moves.ensures ∙ w.if-moves.false) (ap (λ l. l ++ map image (kept_behind others kept k)) w.made-is ∙ c.loop-index.invariant)
    ]

pub returns : goal.returns
returns g c =
    let image = g.T.Part.image (merging_of c.args.plan.now) in
    let past : length c.args.others.now ≤ c.loop-index.index = let over = c.loop-index-test.false in let long = ap length c.as_slice-other-items.ensures in omega arith in
    kept_all c.args.others.now image (moves c.args.found.now) c.loop-index.index c.loop-index.made (map image (selected_with_index (moves c.args.found.now) c.args.others.now)) past c.loop-index.invariant
