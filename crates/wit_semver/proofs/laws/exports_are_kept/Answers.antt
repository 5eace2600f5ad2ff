use Rattle.wit_semver.specs.facts.Merged.{exports_are_kept}
use Rattle.wit_semver.proofs.laws.exports_are_kept.Goals as goal

pub returns : goal.returns
returns c =
    λ rule g w old new k merged.
    exports_are_kept c.laws_of_elaboration.ensures rule g w old new merged k
