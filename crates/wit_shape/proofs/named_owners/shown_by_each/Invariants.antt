use Rattle.std.proofs.Common.{◌≡◌, ℕ, length, take}
use Rattle.std.specs.Prelude.{Contains}
use Rattle.wit_data.specs.Each.{SomeAt}
use Rattle.wit_data.specs.Ownership.{NamesThroughUnnamed}
use Rattle.wit_shape.specs.steps.NamedOwners.{IsNamedOwners}
use Rattle.wit_shape.proofs.named_owners.shown_by_each.Given as goal

-- it is told of the first ones of the order
abbrev pub invariant-loop-index : goal.invariant-loop-index
invariant-loop-index l = record {
  long : length l.shown ≡ length l.types;
  known : (id : ℕ) → Contains (take l.index-index l.index-items) id → SomeAt l.shown id (IsNamedOwners (NamesThroughUnnamed l.types id));
}
