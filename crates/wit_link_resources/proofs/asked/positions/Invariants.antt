use Rattle.std.proofs.Common.{◌≡◌, ◌++◌, take}
use Rattle.std.specs.List.{flat_map}
use Rattle.wit_data.specs.declared.types.TypeDef.{TypeDef}
use Rattle.wit_remap_spec.specs.Selected.{selected}
use Rattle.wit_link_resources.specs.steps.Active.{seen}
use Rattle.wit_link_resources.specs.steps.IncomingTypes.{new_of}
use Rattle.wit_link_resources.proofs.asked.positions.Given as goal
use Rattle.wit_data.specs.Kind.{signature_types}
use Rattle.wit_remap_spec.specs.steps.Parts.{value_positions}

-- those of new types, and of the first functions
abbrev pub invariant-loop-function : goal.invariant-loop-function
invariant-loop-function l =
    l.ids ≡ flat_map (λ (def : TypeDef). value_positions def.kind) (selected (new_of l.incoming) l.incoming.types.now) ++ flat_map signature_types (seen (take l.function-index l.functions))
