use Rattle.std.proofs.Common.{◌≡◌, length, map, take}
use Rattle.std.specs.List.{range_with_len}
use Rattle.wit_remap_spec.specs.ValueRemap.{ValueRemap, needs_own}
use Rattle.wit_link_resources.specs.steps.Active.{seen}
use Rattle.wit_link_resources.specs.steps.IncomingTypes.{AreTold, IsRemap}
use Rattle.wit_link_resources.specs.steps.Leading.{AreRight}
use Rattle.wit_link_resources.proofs.owning.needed.Given as goal

-- what is known is right, and so are the flags of the first types
abbrev pub invariant-loop-index : goal.invariant-loop-index
invariant-loop-index l = record {
  known_long : length l.known ≡ length l.incoming.types.now;
  long : length l.needed ≡ l.index;
  right : (r : ValueRemap) → IsRemap l.incoming (seen l.functions) r → AreTold r l.known × (l.needed ≡ map (needs_own r) (range_with_len 0 l.index));
  met : AreRight l.incoming.graph_types.now l.met;
  begins : take (length l.fn.met) l.met ≡ l.fn.met;
}
