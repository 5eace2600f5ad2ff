use Rattle.std.proofs.Common.{◌≡◌, ◌++◌, map}
use Rattle.wit_remap_spec.specs.Selected.{selected_with_index}
use Rattle.wit_merge_match.specs.steps.Matched.{moves}
use Rattle.wit_merge.specs.steps.MergeSteps.{merging_of}
use Rattle.wit_merge.proofs.Numbered.{kept_behind}
use Rattle.wit_merge.proofs.parts.move_all.Given as goal

-- those so far, and those behind that move
abbrev pub invariant-loop-index : goal.invariant-loop-index
invariant-loop-index g l = l.made ++ map (g.T.Part.image (merging_of l.plan)) (kept_behind l.others (moves l.found) l.index) ≡ map (g.T.Part.image (merging_of l.plan)) (selected_with_index (moves l.found) l.others)
