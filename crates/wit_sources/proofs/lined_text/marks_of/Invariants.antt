use Rattle.std.proofs.Common.{◌≡◌, ◌*◌, length}
use Rattle.wit_sources.specs.steps.Marks.{AreMarks, feeds_before}
use Rattle.wit_sources.proofs.lined_text.marks_of.Given as goal

-- a mark for each index so far
abbrev pub invariant-loop-index : goal.invariant-loop-index
invariant-loop-index l = record {
  feeds : l.feeds ≡ feeds_before l.bytes (l.index * 128);
  number : length l.marks.items ≡ l.index;
  marks : AreMarks l.bytes 0 l.marks.items;
}
