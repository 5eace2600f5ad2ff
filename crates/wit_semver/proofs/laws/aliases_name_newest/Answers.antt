use Rattle.wit_semver.proofs.NewestNamed.{aliases_name_newest}
use Rattle.wit_semver.proofs.laws.aliases_name_newest.Goals as goal

pub returns : goal.returns
returns c = aliases_name_newest
