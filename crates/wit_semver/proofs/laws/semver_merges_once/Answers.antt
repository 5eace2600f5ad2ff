use Rattle.wit_semver.proofs.MergedAgain.{semver_merges_once}
use Rattle.wit_semver.proofs.laws.semver_merges_once.Goals as goal

pub returns : goal.returns
returns c =
    λ rule g w old valid there accepted.
    semver_merges_once c.laws_of_elaboration.ensures rule g w old valid there accepted c.imports_keep_order.ensures
