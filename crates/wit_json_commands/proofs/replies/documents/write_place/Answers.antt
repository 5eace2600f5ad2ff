use Rattle.wit_json.specs.facts.MemberFacts.{object_closed, then_more}
use Rattle.wit_json_commands.proofs.replies.documents.write_place.Goals as goal

pub returns : goal.returns
returns c = object_closed c.end_object.result c.args.out.now c.end_object.new.self c.in_ok-begin_object.ensures (then_more (then_more (then_more (then_more (then_more c.in_ok-write_path_member.ensures c.in_ok-write_number.ensures) c.in_ok-write_number-2.ensures) c.in_ok-write_number-3.ensures) c.in_ok-write_expected.ensures) c.in_ok-write_reason.ensures) c.end_object.ensures
