use Rattle.std.proofs.Common.{◌≡◌, take}
use Rattle.std.specs.Prelude.{IfSome, Contains}
use Rattle.wit_data.specs.facts.EachFacts.{EachBelow}
use Rattle.wit_data.specs.declared.interface.Interface.{Interface}
use Rattle.wit_shape.specs.Faults.{foreign_interface_count}
use Rattle.wit_data.specs.Shape.{interface_names}
use Rattle.std.specs.List.{IsDistinct}
use Rattle.std.specs.Str.{bytes_eq}
use Rattle.wit_shape.proofs.names.interfaces_differ.Given as goal

-- the names of the first ones are met, and differ
abbrev pub invariant-loop-index : goal.invariant-loop-index
invariant-loop-index l = record {
  met : l.met ≡ interface_names (foreign_interface_count l.unresolved) (take l.index l.unresolved.interfaces);
  differ : IsDistinct bytes_eq l.met;
  new : EachBelow l.index (λ i (interface : Interface). IfSome interface.name (λ name. Contains (interface_names (foreign_interface_count l.unresolved) (take i l.unresolved.interfaces)) name → ⊥)) l.unresolved.interfaces;
}
