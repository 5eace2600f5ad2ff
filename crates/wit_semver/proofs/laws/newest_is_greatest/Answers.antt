use Rattle.wit_semver.specs.facts.Greatest.{newest_is_greatest}
use Rattle.wit_semver.proofs.laws.newest_is_greatest.Goals as goal

pub returns : goal.returns
returns c = newest_is_greatest
