use Rattle.wit_semver.proofs.ValidSemverMerges.{semver_merged_is_valid}
use Rattle.wit_semver.proofs.laws.semver_merges_stay_valid.Goals as goal

pub returns : goal.returns
returns c =
    λ rule g w old valid there accepted.
    semver_merged_is_valid c.laws_of_elaboration.ensures rule g w old valid there accepted
