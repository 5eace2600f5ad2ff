use Rattle.std.proofs.Common.{◌≡◌, ◌+◌, ℕ, Some, map}
use Rattle.std.specs.List.{range_with_len}
use Rattle.wit_remap_spec.specs.Selected.{rank}
use Rattle.wit_merge_match.specs.steps.Matched.{moves, new_id_from}
use Rattle.wit_merge_match.proofs.merge_ids.new_ids.Given as goal

-- the places of the first ones, and the next id
abbrev pub invariant-loop-there : goal.invariant-loop-there
invariant-loop-there g l = record {
  new_ids : l.new_ids ≡ map (λ (i : ℕ). Some (new_id_from l.found l.first i)) (range_with_len 0 l.there-index);
  next : l.next ≡ l.first + rank (moves l.found) l.there-index;
}
