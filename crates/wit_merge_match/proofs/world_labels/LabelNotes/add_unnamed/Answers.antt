use Rattle.std.proofs.Common.{◌≡◌, ◌-◌, ℕ, suc, List, sym, subst, arith}
use Rattle.wit_merge_match.specs.steps.Matched.{AreLabelled}
use Rattle.wit_merge_spec.specs.Matches.{WorldLabel}
use Rattle.wit_merge_match.proofs.Noted.{none_left, noted-none, worlds_from}
use Rattle.wit_merge_match.proofs.world_labels.LabelNotes.add_unnamed.Goals as goal

pub loop-index-init : goal.loop-index-init
loop-index-init c =
    let g = c.args.self.now.graph.now in
    let other = c.args.self.now.other.now in
    subst (λ (es : List (ℕ × WorldLabel)). AreLabelled g other c.args.found.now es c.args.found.now) (sym (none_left other.worlds c.len-index.result c.len-index.ensures))
    (noted-none g other c.args.found.now c.requires.long c.requires.unnamed)

pub loop-index-preserved : goal.loop-index-preserved
loop-index-preserved c =
    let g = c.args.self.now.graph.now in
    let other = c.args.self.now.other.now in
    let p : ℕ = c.loop-index.index - 1 in
    let next : c.loop-index.index ≡ suc p = let some = c.loop-index-test.true in omega arith in
    subst (λ (es : List (ℕ × WorldLabel)). AreLabelled g other c.args.found.now es c.note_side-in-loop-index.new.found) (sym (worlds_from other.worlds p c.loop-index.index c.at-world.result.now next c.at-world.ensures))
    (c.note_side-in-loop-index.ensures c.args.found.now _ (c.note_side.ensures c.args.found.now _ c.loop-index.invariant))
