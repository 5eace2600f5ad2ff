use Rattle.std.proofs.Common.{◌≡◌, ◌++◌, ◌-◌, ℕ, suc, List, drop, sym, subst, arith}
use Rattle.std.specs.List.{flat_map}
use Rattle.wit_elaboration.specs.Entries.{Entry}
use Rattle.wit_merge_match.specs.steps.Matched.{AreLabelled}
use Rattle.wit_merge_spec.specs.Matches.{WorldLabel, interface_at_label}
use Rattle.wit_merge_match.proofs.Noted.{side_from}
use Rattle.wit_merge_match.proofs.world_labels.LabelNotes.note_side.Goals as goal

pub loop-index-preserved : goal.loop-index-preserved
loop-index-preserved c = λ named later before.
    let g = c.args.self.now.graph.now in
    let other = c.args.self.now.other.now in
    let p : ℕ = c.loop-index.index - 1 in
    let next : c.loop-index.index ≡ suc p = let some = c.loop-index-test.true in omega arith in
    let behind = flat_map (λ (d : Entry). interface_at_label c.args.world c.args.exported d.0 d.1) (drop c.loop-index.index c.args.entries.now) ++ later in
    let e : Entry = (c.entry_at.result.0.now, c.entry_at.result.1.now) in
    subst (λ (es : List (ℕ × WorldLabel)). AreLabelled g other named es c.note.new.found) (sym (side_from c.args.world c.args.exported c.args.entries.now p c.loop-index.index e later next c.entry_at.ensures))
    (c.note.ensures named behind (c.loop-index.invariant named later before))

pub returns : goal.returns
returns c = λ named later before.
    let ended : c.loop-index.index ≡ 0 = let over = c.loop-index-test.false in omega arith in
    subst (λ (n : ℕ). AreLabelled c.args.self.now.graph.now c.args.self.now.other.now named (flat_map (λ (d : Entry). interface_at_label c.args.world c.args.exported d.0 d.1) (drop n c.args.entries.now) ++ later) c.loop-index.found) ended
    (c.loop-index.invariant named later before)
