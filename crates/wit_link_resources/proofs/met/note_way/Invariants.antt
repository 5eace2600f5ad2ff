use Rattle.std.proofs.Common.{◌≡◌, ◌<◌, length, take}
use Rattle.wit_digraph.specs.PostOrder.{post_order}
use Rattle.wit_data.specs.Uses.{alias_rows}
use Rattle.wit_remap_spec.specs.Resources.{leads_to_resource}
use Rattle.wit_link_resources.specs.steps.Leading.{AreRight}
use Rattle.wit_link_resources.proofs.met.note_way.Given as goal

-- what is noted is right and comes behind what was, and the same is right of the place that has been reached
abbrev pub invariant-loop-target : goal.invariant-loop-target
invariant-loop-target l = record {
  there : l.place < length l.types;
  met : AreRight l.types l.met;
  begins : take (length l.fn.met) l.met ≡ l.fn.met;
  same : l.leads ≡ leads_to_resource l.types l.place;
}

abbrev pub decreases-loop-target : goal.decreases-loop-target
decreases-loop-target l = length (post_order (alias_rows l.types) l.place)
