use Rattle.std.proofs.Common.{◌≡◌, ◌<◌, ℕ, List, length}
use Rattle.wit_merge_match.specs.steps.Classes.{AreSame, IsDescending}
use Rattle.wit_merge_spec.specs.Structure.{Feature}
use Rattle.wit_merge_match.proofs.classes.leader_of.Given as goal

abbrev pub invariant-loop-at : goal.invariant-loop-at
invariant-loop-at l = record {
  there : l.at < length l.leaders;
  long : length l.leaders ≡ length l.fn.leaders;
  descending : IsDescending l.leaders;
  kept : (f : ℕ → List Feature) → AreSame f l.fn.leaders → AreSame f l.leaders;
  same : (f : ℕ → List Feature) → AreSame f l.fn.leaders → f l.thing ≡ f l.at;
}

abbrev pub decreases-loop-at : goal.decreases-loop-at
decreases-loop-at l = l.at
