use Rattle.std.proofs.Common.{◌≡◌}
use Rattle.wit_merge_match.specs.steps.ComparisonSteps.{HasClasses}
use Rattle.wit_merge_match.proofs.WalkSteps.{IsWalking, turns}
use Rattle.wit_merge_match.proofs.comparison.Comparison.parts_difference.Given as goal

abbrev pub invariant-loop-frame : goal.invariant-loop-frame
invariant-loop-frame l = record {
  sides : l.self.sides ≡ l.fn.self.sides;
  classes : HasClasses l.sides l.self.leaders;
  walking : IsWalking l.sides l.from l.into l.stack.items;
}

-- each turn takes the features of a part off what is left, or a frame
abbrev pub decreases-loop-frame : goal.decreases-loop-frame
decreases-loop-frame l = turns l.sides l.stack.items
