use Rattle.std.proofs.Common.{◌∙◌, ap, sym, arith}
use Rattle.json.proofs.Trees.{view-Array}
use Rattle.json.specs.Value.{value_view}
use Rattle.wit_json_reading.specs.Objects.{two_items}
use Rattle.wit_json_reading.proofs.Members.{not_two, two}
use Rattle.wit_json_reading.proofs.objects.two_items.Goals as goal

pub returns-then-len-ne2 : goal.returns-then-len-ne2
returns-then-len-ne2 c =
    not_two c.in-Array.items.items (λ is. omega (arith, is, c.len.ensures, c.if-len-ne2.true)) ∙ ap two_items (sym (view-Array c.in-Array.items))
    ∙ ap (λ v. two_items (value_view v)) (sym c.in-Array.is)

pub returns : goal.returns
returns c =
    two c.in-Array.items.items c.index.result.now c.index-2.result.now (omega (arith, c.len.ensures, c.if-len-ne2.false)) c.index.ensures c.index-2.ensures
    ∙ ap two_items (sym (view-Array c.in-Array.items)) ∙ ap (λ v. two_items (value_view v)) (sym c.in-Array.is)
