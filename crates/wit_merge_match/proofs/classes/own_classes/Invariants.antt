use Rattle.std.proofs.Common.{◌≡◌, length}
use Rattle.wit_merge_match.proofs.ClassSteps.{AreOwn}
use Rattle.wit_merge_match.proofs.classes.own_classes.Given as goal

abbrev pub invariant-loop-thing : goal.invariant-loop-thing
invariant-loop-thing l = record {
  own : AreOwn l.leaders;
  long : length l.leaders ≡ l.thing;
}
