use Rattle.wit_json.specs.facts.MemberFacts.{object_closed, then_more}
use Rattle.wit_json.proofs.writer.JsonText.graph_details_behind.Goals as goal

pub returns : goal.returns
returns c = object_closed c.end_object.result c.args.self.now c.end_object.new.self c.in_ok-begin_object.ensures (then_more (then_more c.in_ok-details_behind.ensures c.in_ok-details_behind-2.ensures) c.in_ok-details_behind-3.ensures) c.end_object.ensures
