use Rattle.std.proofs.Common.{◌≡◌, ◌+◌, length, map}
use Rattle.std.specs.List.{range_with_len}
use Rattle.wit_link_spec.specs.Addition.{own_type}
use Rattle.wit_remap_spec.specs.Selected.{rank}
use Rattle.wit_link_spec.specs.steps.AdditionRefs.{addition_of}
use Rattle.wit_link_lookup.specs.steps.ForeignItems.{AreTypesThere}
use Rattle.wit_link_lookup.proofs.types.type_ids.Given as goal
use Rattle.wit_link_spec.specs.steps.Parts.{active_type_id}

-- the places so far, and the next id
abbrev pub invariant-loop-t : goal.invariant-loop-t
invariant-loop-t l = record {
  new_ids : l.new_ids ≡ map (active_type_id (addition_of l.addition)) (range_with_len 0 l.t);
  next : l.next ≡ length l.addition.graph.now.types + rank (own_type (addition_of l.addition)) l.t;
  there : AreTypesThere (addition_of l.addition) l.t;
}
