use Rattle.std.proofs.Common.{◌≡◌, take}
use Rattle.std.specs.Prelude.{Contains}
use Rattle.wit_data.specs.facts.EachFacts.{EachBelow}
use Rattle.wit_data.specs.declared.world.World.{World}
use Rattle.wit_shape.specs.Faults.{foreign_world_count}
use Rattle.wit_data.specs.Shape.{world_names}
use Rattle.std.specs.List.{IsDistinct}
use Rattle.std.specs.Str.{bytes_eq}
use Rattle.wit_shape.proofs.names.worlds_differ.Given as goal

-- the names of the first ones are met, and differ
abbrev pub invariant-loop-index : goal.invariant-loop-index
invariant-loop-index l = record {
  met : l.met ≡ world_names (foreign_world_count l.unresolved) (take l.index l.unresolved.worlds);
  differ : IsDistinct bytes_eq l.met;
  new : EachBelow l.index (λ w (world : World). Contains (world_names (foreign_world_count l.unresolved) (take w l.unresolved.worlds)) world.name → ⊥) l.unresolved.worlds;
}
