use Rattle.std.proofs.Common.{◌∙◌, refl, sym}
use Rattle.wit_transform.specs.facts.Looked.{answer-kept, answer-left, answered_is_new}
use Rattle.wit_transform.proofs.new_lists.with_answer.Goals as goal
use Rattle.wit_transform.proofs.new_lists.with_answer.Goals.{then-is_answer+in_ok-push_copy, else-is_answer}

pub push_copy-requires : goal.push_copy-requires
push_copy-requires c =
    rw c.loop-index.invariant
    (answered_is_new c.args.answer c.args.entries.now c.args.answers.now c.loop-index.index (c.entry_at.result.0.now, c.entry_at.result.1.now) c.len-index-end.ensures.distinct c.entry_at.ensures)

pub loop-index-preserved : goal.loop-index-preserved
loop-index-preserved c =
    elim c.if-is_answer.branch [
      | then-is_answer+in_ok-push_copy w ↦
          w.table-is ∙ answer-kept c.args.answer c.args.entries.now c.args.answers.now c.loop-index.index _ _ _ _ c.at.result.now c.loop-index.table _ c.entry_at.ensures c.at.ensures
          (sym c.is_answer.ensures ∙ w.if-is_answer.true) c.loop-index.invariant refl refl w.in_ok-push_copy.ensures
      | else-is_answer w ↦
          answer-left c.args.answer c.args.entries.now c.args.answers.now c.loop-index.index _ _ c.at.result.now c.loop-index.table _ c.entry_at.ensures c.at.ensures
          (sym c.is_answer.ensures ∙ w.if-is_answer.false) c.loop-index.invariant w.table-is
    ]
