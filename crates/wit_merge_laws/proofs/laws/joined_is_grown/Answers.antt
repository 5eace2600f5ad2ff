use Rattle.wit_merge_laws.specs.facts.GrownUses.{is_grown}
use Rattle.wit_merge_laws.proofs.laws.joined_is_grown.Goals as goal

pub returns : goal.returns
returns c = is_grown
