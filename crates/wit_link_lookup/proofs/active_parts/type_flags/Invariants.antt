use Rattle.std.proofs.Common.{◌≡◌, map}
use Rattle.std.specs.List.{range_with_len}
use Rattle.wit_link_spec.specs.Gates.{type_is_active}
use Rattle.wit_link_lookup.proofs.active_parts.type_flags.Given as goal

-- the flags of the first ones
abbrev pub invariant-loop-def : goal.invariant-loop-def
invariant-loop-def l = l.flags ≡ map (type_is_active l.features l.unresolved.types) (range_with_len 0 l.def-index)
