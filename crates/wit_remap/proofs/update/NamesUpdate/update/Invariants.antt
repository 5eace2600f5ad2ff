use Rattle.std.proofs.Common.{◌≡◌}
use Rattle.wit_remap.proofs.Firsts.{at_value, map_first}
use Rattle.wit_remap.proofs.update.NamesUpdate.update.Given as goal

-- the first ones are updated
abbrev pub invariant-loop-index : goal.invariant-loop-index
invariant-loop-index g l = l.self ≡ map_first (at_value (g.V.Update.image (g.M.Moves.maps l.mover))) l.index l.initial.self
