use Rattle.std.proofs.Common.{◌≡◌, ◌<◌, ℕ, Some, slice_get}
use Rattle.std.specs.Borrow.{Bor}
use Rattle.wit_data.specs.declared.function.Function.{Function}
use Rattle.wit_link_spec.specs.steps.AdditionRefs.{addition_of}
use Rattle.wit_link_resources.specs.steps.Borrows.{AreFreeOfUnresolved, AreFreeTypes, ReturnsNone}
use Rattle.wit_link_resources.proofs.results.check_results.Given as goal

abbrev pub invariant-loop-function : goal.invariant-loop-function
invariant-loop-function l = record {
  -- the first ones return none
  none : (k : ℕ) → k < l.function-index → (f : Bor Function) → slice_get l.function-items k ≡ Some f → ReturnsNone (addition_of l.addition) f.now;
  unresolved : AreFreeOfUnresolved (addition_of l.addition) l.free.unresolved.keys;
  graph : AreFreeTypes l.addition.graph.now.types l.free.graph.keys;
}
