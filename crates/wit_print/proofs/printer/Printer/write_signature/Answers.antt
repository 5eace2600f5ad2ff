use Rattle.std.proofs.Common.{◌≡◌, ◌++◌, List, OnOk, codes, rules, string_bytes, subst}
use Rattle.std.specs.List.{join_by}
use Rattle.wit_data.specs.declared.types.TypeDef.{TypeDef}
use Rattle.wit_print.specs.Functions.{arrow_wit, param_wit, signature_wit}
use Rattle.wit_print.specs.Headings.{heading_wit}
use Rattle.wit_print.proofs.Bodies.{signature_written}
use Rattle.wit_print.proofs.printer.Printer.write_signature.Goals as goal

-- (the types stand under a λ)
pub returns : goal.returns
unfolding signature_wit
returns c =
    let f = c.args.function.now in
    let known = c.types-types.result.now in
    let indent = c.args.self.now.indent.now in
    let shut : string_bytes c.push_str.new.self ≡ string_bytes c.write_params.new.text ++ codes ")" = search rules in
    let last : OnOk c.push_str-2.result (string_bytes c.push_str-2.new.self ≡ string_bytes c.write_arrow.new.text ++ codes ";\n") = search rules in
    subst (λ (types : List TypeDef). OnOk c.push_str-2.result (string_bytes c.push_str-2.new.self ≡ string_bytes c.args.text.now ++ signature_wit types c.args.self.now.indent.now c.args.function.now c.args.head.now c.args.params.now))
    c.types-types.ensures
    (signature_written c.push_str-2.result (string_bytes c.args.text.now) (string_bytes c.write_heading.new.text) (string_bytes c.write.new.self) (string_bytes c.write_params.new.text) (string_bytes c.push_str.new.self)
    (string_bytes c.write_arrow.new.text) (string_bytes c.push_str-2.new.self) (heading_wit indent f.docs f.stability f.external_id) indent c.args.head.now (codes "(") (join_by (param_wit known) (codes ", ") c.args.params.now) (codes ")")
    (arrow_wit known f.kind f.result_) (codes ";\n") c.in_ok-write_heading.ensures c.in_ok-write.ensures.bytes c.in_ok-write_params.ensures shut c.in_ok-write_arrow.ensures last)
