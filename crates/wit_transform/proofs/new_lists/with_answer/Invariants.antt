use Rattle.std.proofs.Common.{◌≡◌, take}
use Rattle.wit_transform.specs.Transformed.{entries_by_answer}
use Rattle.wit_transform.proofs.new_lists.with_answer.Given as goal

-- the entries so far with this answer
abbrev pub invariant-loop-index : goal.invariant-loop-index
invariant-loop-index l = l.table ≡ entries_by_answer l.answer (take l.index l.entries) l.answers
