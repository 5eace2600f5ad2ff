use Rattle.wit_semver.proofs.Kept.{semver_merges_keep}
use Rattle.wit_semver.proofs.laws.semver_merges_keep.Goals as goal

pub returns : goal.returns
returns c = semver_merges_keep
