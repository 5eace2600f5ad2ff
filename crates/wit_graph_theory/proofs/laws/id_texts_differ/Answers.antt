use Rattle.wit_graph_theory.proofs.IdTextsTold.{id_texts_differ}
use Rattle.wit_graph_theory.proofs.laws.id_texts_differ.Goals as goal

pub returns : goal.returns
returns c = id_texts_differ
