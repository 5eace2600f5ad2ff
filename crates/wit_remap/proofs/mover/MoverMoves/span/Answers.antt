use Rattle.std.proofs.Common.{rules}
use Rattle.wit_remap.proofs.mover.MoverMoves.span.Goals as goal

pub returns : goal.returns
returns c = search rules
