use Rattle.std.proofs.Common.{◌≡◌, map}
use Rattle.wit_link.specs.steps.Including.{include_at}
use Rattle.wit_link.proofs.including.includes_at.Given as goal

abbrev pub invariant-loop-include : goal.invariant-loop-include
invariant-loop-include l = l.new ≡ map (include_at l.new_ids l.offset) l.yielded
