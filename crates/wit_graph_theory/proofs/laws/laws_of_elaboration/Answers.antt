use Rattle.wit_graph_theory.proofs.laws.laws_of_elaboration.Goals as goal

pub returns : goal.returns
returns c = record {
  once = c.elaborates_once.ensures;
  entries = c.elaborated_entries.ensures;
  distinct = c.elaborated_once.ensures;
  labels = c.labels_stay.ensures;
  least = c.imports_are_least.ensures;
  exact = c.imports_are_exact.ensures;
  refused = c.conflicts_are_refused.ensures;
  exports = c.export_keys_stay.ensures;
  local = c.elaboration_is_local.ensures;
}
