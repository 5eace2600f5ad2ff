use Rattle.std.proofs.Common.{◌≡◌, ◌∙◌, ◌++◌, OnOk, Some, ap, rules, slice_get, string_bytes, subst, sym}
use Rattle.wit_data.specs.declared.stability.Docs.{Docs}
use Rattle.wit_data.specs.declared.world.WorldItem.{WorldItem}
use Rattle.wit_print.specs.Headings.{heading_wit}
use Rattle.wit_print.specs.Worlds.{entry_wit}
use Rattle.wit_print.specs.steps.Methods.{text_under}
use Rattle.wit_print.proofs.Bodies.{entry_written}
use Rattle.wit_print.proofs.printer.Printer.write_entry.Goals as goal

pub returns-in_ok-write_label-in-Interface : goal.returns-in_ok-write_label-in-Interface
returns-in_ok-write_label-in-Interface c =
    let here = c.args.self.now in
    let it = c.in-Interface in
    let there : slice_get here.graph.now.interfaces it.id ≡ Some c.in-Some.interface.now = search rules in
    let headed = c.in_ok-write_heading-in-Interface.ensures ∙ ap (λ (d : Docs). string_bytes c.args.text.now ++ heading_wit here.indent.now d it.stability it.external_id) c.entry_docs-docs.ensures in
    subst (λ (item : WorldItem). OnOk c.write_path_or_body.result (string_bytes c.write_path_or_body.new.text ≡ string_bytes c.args.text.now ++ entry_wit here.graph.now here.home here.indent.now (text_under here.methods.now) c.args.side c.args.key.now item))
    (sym it.is)
    (entry_written c.write_path_or_body.result here.graph.now here.home here.indent.now (text_under here.methods.now) c.args.side c.args.key.now it.id it.stability it.docs it.span it.external_id c.in-Some.interface.now _ _ _ _ there headed
    c.in_ok-write_label-in-Interface.ensures c.write_path_or_body.ensures)
