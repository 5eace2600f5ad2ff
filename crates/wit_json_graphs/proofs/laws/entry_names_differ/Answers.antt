use Rattle.wit_json_graphs.proofs.Keys.{entry_names_differ}
use Rattle.wit_json_graphs.proofs.laws.entry_names_differ.Goals as goal

pub returns : goal.returns
returns c = entry_names_differ
