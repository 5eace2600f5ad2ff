use Rattle.std.proofs.Common.{◌≡◌, ◌∙◌, ◌++◌, ap, codes, rules}
use Rattle.wit_print.specs.declared.methods.Methods.{Methods}
use Rattle.wit_print.specs.steps.Methods.{text_under}
use Rattle.wit_print.proofs.Bodies.{entries_written}
use Rattle.wit_print.proofs.printer.Printer.write_entries.Goals as goal

pub returns : goal.returns
returns c =
    let inside = c.new-inside.result in
    let indent : inside.indent.now ≡ c.args.self.now.indent.now ++ codes "  " = search rules in
    entries_written c.write_side-2.result c.args.self.now.graph.now inside.graph.now inside.home (c.args.self.now.indent.now ++ codes "  ") inside.indent.now (text_under inside.methods.now) c.args.world.now _ _ _
    c.new-inside.ensures.graph c.new-inside.ensures.home indent (λ r. ap (λ (m : Methods). text_under m r) c.new-inside.ensures.methods ∙ c.in_ok-methods.ensures r)
    c.in_ok-write_side.ensures c.write_side-2.ensures
