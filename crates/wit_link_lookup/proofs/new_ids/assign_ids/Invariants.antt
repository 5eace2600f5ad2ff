use Rattle.std.proofs.Common.{◌≡◌, ◌++◌, drop}
use Rattle.wit_link_lookup.specs.steps.ForeignItems.{assigned_ids}
use Rattle.wit_link_lookup.proofs.new_ids.assign_ids.Given as goal

-- the ids so far, and those of what is left
abbrev pub invariant-loop-index : goal.invariant-loop-index
invariant-loop-index g l = l.ids ++ assigned_ids l.next (drop l.index l.active) (drop l.index l.found) ≡ assigned_ids l.first l.active l.found
