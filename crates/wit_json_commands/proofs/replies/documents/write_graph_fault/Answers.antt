use Rattle.std.proofs.Common.{codes}
use Rattle.wit_graph_faults.specs.FaultText.{graph_fault_text}
use Rattle.wit_json.specs.Values.{json_of_text, member}
use Rattle.wit_json_commands.proofs.PackagePaths.{added_last}
use Rattle.wit_json_commands.proofs.replies.documents.write_graph_fault.Goals as goal

pub returns : goal.returns
returns c = added_last c.write_message.result c.write_message.new.out (member (codes "message") (json_of_text (graph_fault_text c.args.reason))) c.in_ok-write_clause.ensures c.write_message.ensures
