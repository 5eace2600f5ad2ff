use Rattle.std.proofs.Common.{◌≡◌, ◌<◌, ℕ, Some, slice_get}
use Rattle.std.specs.Borrow.{Bor}
use Rattle.wit_data.specs.declared.function.Function.{Function}
use Rattle.wit_link_resources.specs.steps.Borrows.{AreFreeTypes}
use Rattle.wit_merge.specs.steps.MergeSteps.{ReturnsFree, merging_of}
use Rattle.wit_merge.proofs.results.check_results.Given as goal

abbrev pub invariant-loop-function : goal.invariant-loop-function
invariant-loop-function l = record {
  -- the first ones return none
  none : (k : ℕ) → k < l.function-index → (f : Bor Function) → slice_get l.function-items k ≡ Some f → ReturnsFree (merging_of l.plan) f.now;
  free : AreFreeTypes l.types l.free.keys;
}
