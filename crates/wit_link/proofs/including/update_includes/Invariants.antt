use Rattle.std.proofs.Common.{◌≡◌, map}
use Rattle.wit_link.specs.steps.Including.{world_with}
use Rattle.wit_link.proofs.including.update_includes.Given as goal

abbrev pub invariant-loop-world : goal.invariant-loop-world
invariant-loop-world l = l.new ≡ map (world_with l.new_ids l.offset) l.yielded
