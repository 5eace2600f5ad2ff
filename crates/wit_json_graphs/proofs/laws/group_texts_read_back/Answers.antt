use Rattle.wit_json_graphs.proofs.Plain.{group_texts_read_back}
use Rattle.wit_json_graphs.proofs.laws.group_texts_read_back.Goals as goal

pub returns : goal.returns
returns c = group_texts_read_back
