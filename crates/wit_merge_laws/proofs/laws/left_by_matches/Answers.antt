use Rattle.wit_merge_laws.specs.facts.Leaves.{left_by_matches}
use Rattle.wit_merge_laws.proofs.laws.left_by_matches.Goals as goal

pub returns : goal.returns
returns c = left_by_matches
