use Rattle.std.proofs.Common.{◌≡◌}
use Rattle.wit_remap_spec.specs.Selected.{rank}
use Rattle.wit_link_resources.specs.steps.IncomingTypes.{new_of}
use Rattle.wit_link_resources.proofs.incoming.Incoming.count_new.Given as goal

-- how many of the first ones are
abbrev pub invariant-loop-index : goal.invariant-loop-index
invariant-loop-index l = l.count ≡ rank (new_of l.self) l.index
