use Rattle.wit_semver.proofs.Kept.{aliases_keep_names}
use Rattle.wit_semver.proofs.laws.aliases_keep_names.Goals as goal

pub returns : goal.returns
returns c = aliases_keep_names
