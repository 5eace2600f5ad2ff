use Rattle.std.proofs.Common.{◌≡◌, ◌++◌}
use Rattle.wit_merge.specs.steps.MergeSteps.{FunctionsMove, brought_matched, functions_image, merging_of}
use Rattle.wit_merge.proofs.interfaces.push_functions.Given as goal

-- what has been added, and what those will add that are left, which can move
abbrev pub invariant-loop-name : goal.invariant-loop-name
invariant-loop-name l = record {
  all : l.into ++ functions_image (merging_of l.plan) (brought_matched l.known l.name-iterator) ≡ l.fn.into ++ functions_image (merging_of l.plan) (brought_matched l.known l.from);
  can : FunctionsMove (merging_of l.plan) l.name-iterator;
}
