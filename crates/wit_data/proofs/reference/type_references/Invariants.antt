use Rattle.std.proofs.Common.{◌≡◌, map, take}
use Rattle.wit_data.specs.Kind.{referred}
use Rattle.wit_data.specs.declared.types.TypeDef.{TypeDef}
use Rattle.wit_data.proofs.reference.type_references.Given as goal

-- the rows so far
abbrev pub invariant-loop-def : goal.invariant-loop-def
invariant-loop-def l =
    l.rows ≡ map (λ (def : TypeDef). referred def.kind) (take l.def-index l.types)
