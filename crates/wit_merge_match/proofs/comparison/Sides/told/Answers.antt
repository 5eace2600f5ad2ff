use Rattle.std.proofs.Common.{◌≡◌, ◌∙◌, ◌++◌, ◌<◌, ◌-◌, ℕ, List, ap, arith, get_or, length, string_bytes, subst, sym}
use Rattle.std.proofs.lemmas.Option.{slice_get-get_or}
use Rattle.wit_data.specs.declared.types.TypeDefKind.{TypeDefKind}
use Rattle.wit_data.specs.Kind.{kind_parts}
use Rattle.wit_merge_match.specs.declared.frames.Frame.{Frame}
use Rattle.wit_merge_match.specs.steps.ComparisonSteps.{frame_step}
use Rattle.wit_merge_match.specs.steps.Kinds.{step_at}
use Rattle.wit_merge_match.proofs.PathText.{told_behind, told_first}
use Rattle.wit_merge_match.proofs.WalkSteps.{kind_is}
use Rattle.wit_merge_match.proofs.comparison.Sides.told.Goals as goal
use Rattle.wit_merge_match.proofs.comparison.Sides.told.Goals.{then-index-gt0+in_ok-push_str, else-index-gt0}

pub at-requires : goal.at-requires
at-requires c =
    let none : Frame = record { from = 0; into = 0; next = 0 } in
    (c.requires.parts c.loop-index.index (get_or c.args.stack.now c.loop-index.index none) (slice_get-get_or c.args.stack.now c.loop-index.index none (omega arith))).from

pub overflow_sub-frame : goal.overflow_sub-frame
overflow_sub-frame c =
    let none : Frame = record { from = 0; into = 0; next = 0 } in
    (c.requires.parts c.loop-index.index (get_or c.args.stack.now c.loop-index.index none) (slice_get-get_or c.args.stack.now c.loop-index.index none (omega arith))).begun

pub step_text-requires : goal.step_text-requires
step_text-requires c =
    let none : Frame = record { from = 0; into = 0; next = 0 } in
    let f = get_or c.args.stack.now c.loop-index.index none in
    let part = c.requires.parts c.loop-index.index f (slice_get-get_or c.args.stack.now c.loop-index.index none (omega arith)) in
    subst (λ (k : TypeDefKind). f.next - 1 < length (kind_parts k)) (kind_is c.args.self.now.from.now f.from c.at.result.now c.at.ensures) (omega (arith, part.begun, part.within))

pub loop-index-preserved : goal.loop-index-preserved
loop-index-preserved c =
    let none : Frame = record { from = 0; into = 0; next = 0 } in
    let s = c.args.self.now in
    let stack = c.args.stack.now in
    let i = c.loop-index.index in
    let f = get_or stack i none in
    let at = slice_get-get_or stack i none (omega arith) in
    let new = string_bytes c.push_str-in-loop-index.new.self in
    let mid = string_bytes c.if-index-gt0.text in
    let step : new ≡ mid ++ frame_step s f =
    c.in_ok-push_str-2.ensures.bytes
    ∙ ap (λ (l : List ℕ). mid ++ l) (c.deref.ensures ∙ (c.in_ok-step.ensures ∙ ap (λ (k : TypeDefKind). step_at k (f.next - 1)) (sym (kind_is s.from.now f.from c.at.result.now c.at.ensures)))) in
    elim c.if-index-gt0.branch [
      | then-index-gt0+in_ok-push_str w ↦
          told_behind s stack i f at (string_bytes c.loop-index.text) mid new c.loop-index.invariant (ap string_bytes w.text-is ∙ w.in_ok-push_str.ensures.bytes) step (omega arith)
      | else-index-gt0 w ↦ told_first s stack i f at (string_bytes c.loop-index.text) mid new c.loop-index.invariant (ap string_bytes w.text-is) step (omega arith)
    ]
