use Rattle.std.proofs.Common.{◌≡◌, ◌∙◌, ◌++◌, ap, codes, rules}
use Rattle.wit_print.specs.declared.methods.Methods.{Methods}
use Rattle.wit_print.specs.steps.Methods.{text_under}
use Rattle.wit_print.proofs.Bodies.{body_written}
use Rattle.wit_print.proofs.printer.Printer.write_body.Goals as goal

pub returns : goal.returns
returns c =
    let inside = c.new-inside.result in
    let indent : inside.indent.now ≡ c.args.self.now.indent.now ++ codes "  " = search rules in
    body_written c.write_functions.result c.args.self.now.graph.now inside.graph.now inside.home (c.args.self.now.indent.now ++ codes "  ") inside.indent.now (text_under inside.methods.now) c.args.interface.now _ _ _
    c.new-inside.ensures.graph c.new-inside.ensures.home indent (λ r. ap (λ (m : Methods). text_under m r) c.new-inside.ensures.methods ∙ c.in_ok-methods.ensures r)
    c.in_ok-write_types.ensures c.write_functions.ensures
