use Rattle.std.proofs.Common.{◌≡◌, ◌<◌, length}
use Rattle.wit_digraph.specs.PostOrder.{post_order}
use Rattle.wit_data.specs.Uses.{alias_rows}
use Rattle.wit_remap_spec.specs.Resources.{leads_to_resource}
use Rattle.wit_link_resources.proofs.met.end_of_way.Given as goal

-- the way so far led along aliases
abbrev pub invariant-loop-target : goal.invariant-loop-target
invariant-loop-target l = record {
  there : l.place < length l.types;
  same : leads_to_resource l.types l.fn.place ≡ leads_to_resource l.types l.place;
}

abbrev pub decreases-loop-target : goal.decreases-loop-target
decreases-loop-target l = length (post_order (alias_rows l.types) l.place)
