use Rattle.std.proofs.Common.{◌≡◌, ◌≤◌, length, map, filter}
use Rattle.std.specs.List.{range_with_len}
use Rattle.wit_remap_spec.specs.Resources.{own_of}
use Rattle.wit_remap_spec.specs.ValueRemap.{ValueRemap, needs_own}
use Rattle.wit_link_resources.specs.steps.Active.{seen}
use Rattle.wit_link_resources.specs.steps.IncomingTypes.{IsRemap}
use Rattle.wit_link_resources.proofs.owning.remapped_values.Given as goal
use Rattle.wit_remap_spec.specs.steps.Parts.{value_id}

-- what the values of the first types are remapped to, and their `own`s
abbrev pub invariant-loop-index : goal.invariant-loop-index
invariant-loop-index l = record {
  few : length l.owns ≤ l.index;
  right : (r : ValueRemap) → IsRemap l.incoming (seen l.functions) r → (l.value_ids ≡ map (value_id r) (range_with_len 0 l.index)) × (l.owns ≡ map (λ t. own_of (r.ids.types t)) (filter (needs_own r) (range_with_len 0 l.index)));
}
