use Rattle.std.proofs.Common.{◌≡◌, length, rules}
use Rattle.wit_print.specs.steps.Pieces.{defined_pieces}
use Rattle.wit_print.proofs.PieceTexts.{defined_written}
use Rattle.wit_print.proofs.types.write_defined.Goals as goal

pub returns : goal.returns
returns c =
    let had : c.push_defined.new.stack ≡ defined_pieces c.args.kind.now (length c.args.types.now) = search rules in
    defined_written c.write_pieces.result c.args.types.now c.push_defined.new.stack c.args.kind.now _ _ had c.write_pieces.ensures
