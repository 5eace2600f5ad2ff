-- The positions of values in types that come.
use Rattle.std.proofs.Common.{ℕ, List, [], slice_get}
use Rattle.std.specs.Prelude.{if◌then◌else◌}
use Rattle.std.specs.Option.{option_map_or}
use Rattle.wit_data.specs.declared.types.TypeDef.{TypeDef}
use Rattle.wit_link_resources.specs.declared.incoming.Incoming.{Incoming}
use Rattle.wit_link_resources.specs.steps.IncomingTypes.{new_of}
use Rattle.wit_remap_spec.specs.steps.Parts.{value_positions}

-- those of type t, where it is new
abbrev pub positions_at : Incoming → ℕ → List ℕ
positions_at s t = if new_of s t then option_map_or (λ (def : TypeDef). value_positions def.kind) (slice_get s.types.now t) [] else []
