use Rattle.wit_json_graphs.proofs.Plain.{texts_read_back}
use Rattle.wit_json_graphs.proofs.laws.texts_read_back.Goals as goal

pub returns : goal.returns
returns c = texts_read_back
