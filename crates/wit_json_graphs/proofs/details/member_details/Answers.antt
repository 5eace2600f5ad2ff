use Rattle.wit_json_reading.specs.declared.fault.Step.TheVariants.{Member}
use Rattle.wit_json_graphs.proofs.Completed.{completed}
use Rattle.wit_json_graphs.proofs.details.member_details.Goals as goal

pub returns : goal.returns
returns g c = completed (Member c.args.name.now) c.read_details.result c.in_member.result _ c.read_details.new.self c.in_member.ensures c.read_details.ensures
