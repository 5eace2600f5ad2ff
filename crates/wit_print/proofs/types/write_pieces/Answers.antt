use Rattle.std.proofs.Common.{◌≡◌, [], rules}
use Rattle.wit_print.proofs.PieceTexts.{all_written}
use Rattle.wit_print.proofs.types.write_pieces.Goals as goal

pub returns : goal.returns
returns c =
    let empty : c.loop-piece.stack ≡ [] = search rules in
    all_written c.args.types.now c.loop-piece.stack _ _ empty c.loop-piece.invariant
