use Rattle.wit_graph_theory.specs.facts.CoveredIsValid.{IsValid-of_covered}
use Rattle.wit_graph_theory.proofs.laws.covered_graphs_are_valid.Goals as goal

pub returns : goal.returns
returns c = λ at g good carries covered tables whole. IsValid-of_covered at g good carries covered tables whole
