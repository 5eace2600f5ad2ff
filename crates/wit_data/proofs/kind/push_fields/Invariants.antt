use Rattle.std.proofs.Common.{◌≡◌, ◌++◌, take}
use Rattle.std.specs.List.{flat_map}
use Rattle.wit_data.specs.Kind.{named_type}
use Rattle.wit_data.specs.declared.types.Field.{Field}
use Rattle.wit_data.proofs.kind.push_fields.Given as goal

-- those of the first ones have been added
abbrev pub invariant-loop-field : goal.invariant-loop-field
invariant-loop-field l =
    l.ids ≡ l.fn.ids ++ flat_map (λ (f : Field). named_type f.ty) (take l.field-index l.fields)
