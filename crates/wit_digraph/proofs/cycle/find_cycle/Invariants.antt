use Rattle.std.proofs.Common.{◌≡◌, ℕ, ◌<◌, length}
use Rattle.wit_digraph.specs.steps.Cycles.{IsFinished, mark_of}
use Rattle.wit_digraph.specs.declared.cycle.Mark.TheVariants.{Done}
use Rattle.wit_digraph.proofs.cycle.find_cycle.Given as goal

abbrev pub invariant-loop-root : goal.invariant-loop-root
invariant-loop-root l = record {
  settled : IsFinished l.uses l.marks.items;
  long : length l.marks.items ≡ length l.uses;
  all_done : (i : ℕ) → i < l.root → mark_of l.marks.items i ≡ Done;
}
