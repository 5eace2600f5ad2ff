use Rattle.std.proofs.Common.{◌≡◌, ◌++◌, OnOk, ap, decimal, rules, string_bytes}
use Rattle.wit_print.specs.steps.Pieces.{piece_text, sign_text}
use Rattle.wit_print.proofs.PieceTexts.{length_step, part_step, part_written, piece_written, sign_step}
use Rattle.wit_print.proofs.types.write_piece.Goals as goal

pub returns-in-Sign-clause-text : goal.returns-in-Sign-clause-text
returns-in-Sign-clause-text c =
    let pushed : OnOk c.push_str.result (string_bytes c.push_str.new.self ≡ string_bytes c.args.text.now ++ sign_text c.in-Sign.sign) = search rules in
    piece_written c.push_str.result c.args.types.now c.args.stack.now c.args.piece _ _ _ (ap (piece_text c.args.types.now) c.in-Sign.is) pushed

pub returns-in-Sign-clause-steps : goal.returns-in-Sign-clause-steps
returns-in-Sign-clause-steps c = rw c.in-Sign.is (sign_step c.push_str.result c.args.types.now c.args.stack.now c.in-Sign.sign)

pub returns-in-Length-clause-text : goal.returns-in-Length-clause-text
returns-in-Length-clause-text c =
    let had : OnOk c.write.result (string_bytes c.write.new.self ≡ string_bytes c.args.text.now ++ decimal c.in-Length.len) = search rules in
    piece_written c.write.result c.args.types.now c.args.stack.now c.args.piece _ _ _ (ap (piece_text c.args.types.now) c.in-Length.is) had

pub returns-in-Length-clause-steps : goal.returns-in-Length-clause-steps
returns-in-Length-clause-steps c = rw c.in-Length.is (length_step c.write.result c.args.types.now c.args.stack.now c.in-Length.len)

pub returns-in-Part-clause-text : goal.returns-in-Part-clause-text
returns-in-Part-clause-text c = rw c.in-Part.is (part_written c.write_part.result c.args.types.now c.args.stack.now c.in-Part.ty c.in-Part.depth _ _ c.write_part.ensures.text)

pub returns-in-Part-clause-steps : goal.returns-in-Part-clause-steps
returns-in-Part-clause-steps c = rw c.in-Part.is (part_step c.write_part.result c.args.types.now c.args.stack.now c.in-Part.ty c.in-Part.depth _ c.write_part.ensures.steps)
