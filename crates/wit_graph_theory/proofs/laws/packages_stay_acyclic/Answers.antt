use Rattle.wit_graph_theory.specs.facts.PackageCycleFacts.{packages_stay_acyclic}
use Rattle.wit_graph_theory.proofs.laws.packages_stay_acyclic.Goals as goal

pub returns : goal.returns
returns c = packages_stay_acyclic c.elaborated_entries.ensures
