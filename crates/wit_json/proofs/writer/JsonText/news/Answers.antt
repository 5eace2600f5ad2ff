use Rattle.wit_json.specs.facts.MemberFacts.{object_closed, then_more}
use Rattle.wit_json.proofs.writer.JsonText.news.Goals as goal

pub returns : goal.returns
returns c = object_closed c.end_object.result c.args.self.now c.end_object.new.self c.in_ok-begin_object.ensures (then_more (then_more (then_more (then_more (then_more c.in_ok-member.ensures c.in_ok-graph_member_behind.ensures) c.in_ok-details_member_behind.ensures) c.in_ok-member-2.ensures) c.in_ok-member-3.ensures) c.in_ok-files_member_behind.ensures) c.end_object.ensures
