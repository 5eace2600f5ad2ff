use Rattle.wit_json_graphs.proofs.Graphs.{resolves_read_back}
use Rattle.wit_json_graphs.proofs.laws.resolves_read_back.Goals as goal

pub returns : goal.returns
returns c = resolves_read_back
