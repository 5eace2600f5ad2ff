use Rattle.std.proofs.Common.{◌≡◌, ◌⊎◌, ℕ, inl, inr, ap, length, get_or, arith}
use Rattle.wit_digraph.specs.steps.Rows.{HasBit}
use Rattle.wit_elaboration.specs.steps.Closures.{HasUse}
use Rattle.wit_elaboration.proofs.PassMarks.{marked_more, marked_same}
use Rattle.wit_elaboration.proofs.passes.mark_leading.Goals.{then-node-to, then-node-to-via-then-node-to, then-node-to-via-else-node-to+then-has_use, else-node-to+else-has_use}
use Rattle.wit_elaboration.proofs.passes.mark_leading.Goals as goal

pub loop-node-preserved : goal.loop-node-preserved
loop-node-preserved c =
    let uses = c.args.uses.now in
    let order = c.args.order.now in
    let node = get_or c.args.order.now c.loop-node.node-index 0 in
    elim c.if-node-to.branch [
      | then-node-to w ↦
          let why : (λ (t : ℕ). t ≡ c.args.to) node ⊎ HasUse uses (HasBit c.loop-node.marks) node =
          elim w.then-node-to.branch [
            | then-node-to-via-then-node-to w' ↦ inl (w'.if-node-to.true)
            | then-node-to-via-else-node-to+then-has_use w' ↦ inr (w'.has_use.ensures.0 w'.if-has_use.true)
          ] in
          record {
            marked = rw w.marks-is (marked_more uses (λ (t : ℕ). t ≡ c.args.to) order c.requires.uses_first c.loop-node.node-index (omega arith) c.loop-node.marks w.set_bit.new.row c.loop-node.invariant.marked why w.set_bit.ensures.set w.set_bit.ensures.others);
            long = omega (arith, ap length w.marks-is, c.loop-node.invariant.long);
          }
      | else-node-to+else-has_use w ↦
          record {
            marked = rw w.marks-is (marked_same uses (λ (t : ℕ). t ≡ c.args.to) order c.requires.uses_first c.loop-node.node-index (omega arith) c.loop-node.marks c.loop-node.invariant.marked
                (λ target. w.if-node-to.false target)
                (λ found. let on = w.has_use.ensures.1 found in let off = w.if-has_use.false in cc));
            long = omega (arith, ap length w.marks-is, c.loop-node.invariant.long);
          }
    ]
