use Rattle.std.proofs.Common.{◌≡◌, ◌∷◌, [], length, rules}
use Rattle.wit_print.specs.declared.types.Piece.TheVariants as piece
use Rattle.wit_print.proofs.PieceTexts.{type_written}
use Rattle.wit_print.proofs.types.write_type.Goals as goal

pub returns : goal.returns
returns c =
    let had : c.push.new.self ≡ piece.Part c.args.ty (length c.args.types.now) ∷ [] = search rules in
    type_written c.write_pieces.result c.args.types.now c.push.new.self c.args.ty _ _ had c.write_pieces.ensures
