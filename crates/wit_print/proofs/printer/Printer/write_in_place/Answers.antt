use Rattle.std.proofs.Common.{◌++◌, codes}
use Rattle.wit_print.specs.Interfaces.{body_wit}
use Rattle.wit_print.proofs.Bodies.{braced}
use Rattle.wit_print.proofs.printer.Printer.write_in_place.Goals as goal

pub returns : goal.returns
returns c =
    let here = c.args.self.now in
    braced c.write.result _ _ _ _ (codes "interface {\n") (body_wit here.graph.now (here.indent.now ++ codes "  ") c.args.interface.now) (here.indent.now ++ codes "}\n") c.in_ok-push_str.ensures.bytes c.in_ok-write_body.ensures
    c.write.ensures.bytes
