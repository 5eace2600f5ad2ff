use Rattle.std.proofs.Common.{◌≡◌, ◌<◌, ℕ, Some, length, slice_get, take}
use Rattle.wit_link_spec.specs.steps.AdditionRefs.{addition_of}
use Rattle.wit_link_spec.specs.Gates.{OptionalSpan}
use Rattle.wit_link_resources.specs.steps.Leading.{AreRight, LeadsWhereFound}
use Rattle.wit_link_resources.proofs.required.check_resources.Given as goal

-- the first ones are fine, and what is noted is right
abbrev pub invariant-loop-id : goal.invariant-loop-id
invariant-loop-id l = record {
  fine : (k : ℕ) → k < l.id-index → (r : ℕ × OptionalSpan) → slice_get l.addition.unresolved.now.required_resource_types k ≡ Some r → LeadsWhereFound (addition_of l.addition) r.0;
  met : AreRight l.addition.graph.now.types l.met;
  begins : take (length l.fn.met) l.met ≡ l.fn.met;
}
