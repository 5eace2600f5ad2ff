use Rattle.wit_json_graphs.proofs.Sources.{groups_read_back}
use Rattle.wit_json_graphs.proofs.laws.groups_read_back.Goals as goal

pub returns : goal.returns
returns c = groups_read_back
