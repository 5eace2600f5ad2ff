use Rattle.std.proofs.Common.{◌∙◌, ap, sym, arith}
use Rattle.json.proofs.Trees.{view-Object}
use Rattle.json.specs.Value.{value_view}
use Rattle.wit_json_reading.specs.Objects.{one_member}
use Rattle.wit_json_reading.proofs.Members.{not_one, one}
use Rattle.wit_json_reading.proofs.objects.one_member.Goals as goal

pub returns-then-len-ne1 : goal.returns-then-len-ne1
returns-then-len-ne1 c =
    not_one c.in-Object.members.items (λ is. omega (arith, is, c.len.ensures, c.if-len-ne1.true)) ∙ ap one_member (sym (view-Object c.in-Object.members))
    ∙ ap (λ v. one_member (value_view v)) (sym c.in-Object.is)

pub returns : goal.returns
returns c =
    one c.in-Object.members.items c.index-member.result.now (omega (arith, c.len.ensures, c.if-len-ne1.false)) c.index-member.ensures
    ∙ ap one_member (sym (view-Object c.in-Object.members)) ∙ ap (λ v. one_member (value_view v)) (sym c.in-Object.is)
