use Rattle.wit_json.specs.facts.MemberFacts.{object_closed, then_more}
use Rattle.wit_json.proofs.details.TypeDefWriteDetails.write_details.Goals as goal

pub returns : goal.returns
returns c = object_closed c.end_object.result c.args.out.now c.end_object.new.self c.in_ok-begin_object.ensures (then_more (then_more c.in_ok-span.ensures c.in_ok-external_id.ensures) c.in_ok-parts.ensures) c.end_object.ensures
