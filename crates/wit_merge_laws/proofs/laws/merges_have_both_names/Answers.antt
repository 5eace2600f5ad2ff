use Rattle.wit_merge_laws.specs.facts.BothNames.{both_names}
use Rattle.wit_merge_laws.proofs.laws.merges_have_both_names.Goals as goal

pub returns : goal.returns
returns c = both_names c.laws_of_elaboration.ensures
