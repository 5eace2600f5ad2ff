use Rattle.std.proofs.Common.{◌≡◌, ◌++◌, [], ℕ, string_bytes, subst}
use Rattle.witgraph_dot.proofs.Appended.{piece-behind}
use Rattle.witgraph_dot.specs.Lines.{labelled_lines}
use Rattle.witgraph_dot.proofs.drawing.write_labelled.Goals as goal

pub loop-id-preserved : goal.loop-id-preserved
loop-id-preserved c =
    let lines = labelled_lines c.args.kind c.args.world c.args.entries.now in
    let before = string_bytes c.loop-id.text in
    let after = string_bytes c.write_labelled_arrow.new.text in
    let written : after ≡ before ++ lines c.id-item.result =
    subst (λ (w : ℕ). after ≡ before ++ labelled_lines c.args.kind w c.args.entries.now c.id-item.result) c.index.ensures c.in_ok-write_labelled_arrow.ensures in
    piece-behind lines c.deref-id-items.result.now c.loop-id.id-index c.id-item.result (string_bytes c.args.text.now) [] before after
    c.loop-id-test.true c.id-item.is c.loop-id.invariant written
