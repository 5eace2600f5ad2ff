use Rattle.std.proofs.Common.{codes, subst}
use Rattle.wit_graph_data.specs.declared.error_kind.ResolveErrorKind.{ResolveErrorKind}
use Rattle.wit_json.specs.Values.{member}
use Rattle.wit_json.specs.facts.MemberFacts.{object_closed, then_more}
use Rattle.wit_json.specs.steps.Members.{Adds}
use Rattle.wit_json_commands.specs.RefusalJson.{json_of_fields}
use Rattle.wit_json_commands.proofs.replies.answers.RefusalWriteJson.write_json.Goals as goal

pub returns : goal.returns
returns c =
    let fields = subst (λ (kind : ResolveErrorKind). Adds c.member.new.self c.write_fields.new.out (member (codes "fields") (json_of_fields kind))) c.kind.ensures c.in_ok-write_fields.ensures in
    object_closed c.end_object.result c.args.out.now c.end_object.new.self c.in_ok-begin_object.ensures
    (then_more (then_more (then_more (then_more (then_more c.in_ok-member.ensures fields) c.in_ok-member-2.ensures) c.in_ok-member-3.ensures) c.in_ok-optional.ensures) c.in_ok-member-4.ensures) c.end_object.ensures
