use Rattle.std.proofs.Common.{◌≡◌, ◌++◌, take}
use Rattle.std.specs.List.{flat_map}
use Rattle.wit_data.specs.Kind.{named_type}
use Rattle.wit_data.proofs.kind.push_types.Given as goal

-- those of the first ones have been added
abbrev pub invariant-loop-ty : goal.invariant-loop-ty
invariant-loop-ty l = l.ids ≡ l.fn.ids ++ flat_map named_type (take l.ty-index l.types)
