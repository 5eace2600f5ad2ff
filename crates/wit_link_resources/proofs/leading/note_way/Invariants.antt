use Rattle.std.proofs.Common.{◌≡◌, ◌<◌, List, length}
use Rattle.wit_digraph.specs.PostOrder.{post_order}
use Rattle.wit_data.specs.declared.function.Function.{Function}
use Rattle.wit_data.specs.Uses.{alias_rows}
use Rattle.wit_remap_spec.specs.ValueRemap.{ValueRemap}
use Rattle.wit_link_resources.specs.steps.IncomingTypes.{AreTold, IsRemap, IsRemapped, leads_in}
use Rattle.wit_link_resources.proofs.leading.note_way.Given as goal

-- what is noted is right, and the same is right of the type that has been reached
abbrev pub invariant-loop-target : goal.invariant-loop-target
invariant-loop-target l = record {
  there : l.current < length l.incoming.types.now;
  remapped : IsRemapped l.incoming.ids.now l.current;
  long : length l.known ≡ length l.incoming.types.now;
  right : (functions : List Function) (r : ValueRemap) → IsRemap l.incoming functions r → AreTold r l.fn.known → leads_in r l.index ≡ l.leads → AreTold r l.known × (leads_in r l.current ≡ l.leads);
}

abbrev pub decreases-loop-target : goal.decreases-loop-target
decreases-loop-target l = length (post_order (alias_rows l.incoming.types.now) l.current)
