use Rattle.std.proofs.Common.{◌<◌, ℕ, List}
use Rattle.wit_data.specs.facts.EachFacts.{EachBelow}
use Rattle.wit_data.specs.Each.{Each}
use Rattle.wit_data.specs.declared.interface.Interface.{Interface}
use Rattle.wit_shape.specs.Faults.{foreign_interface_count}
use Rattle.wit_shape.specs.Faults.{unknown_count}
use Rattle.wit_shape.proofs.unknown.listed_types.Given as goal

-- it holds of the first ones
abbrev pub invariant-loop-index : goal.invariant-loop-index
invariant-loop-index l = EachBelow l.index (λ i (interface : Interface). Each (λ (e : List ℕ × ℕ). i < foreign_interface_count l.unresolved → e.1 < unknown_count l.unresolved) interface.types) l.unresolved.interfaces
