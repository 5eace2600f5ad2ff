use Rattle.wit_merge_laws.specs.facts.ValidMerges.{valid_merges}
use Rattle.wit_merge_laws.proofs.laws.merges_stay_valid.Goals as goal

pub returns : goal.returns
returns c = valid_merges c.laws_of_elaboration.ensures
