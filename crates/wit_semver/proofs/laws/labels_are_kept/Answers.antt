use Rattle.wit_semver.proofs.KeptLabels.{labels_are_kept}
use Rattle.wit_semver.proofs.laws.labels_are_kept.Goals as goal

pub returns : goal.returns
returns c =
    λ rule g w old new merged.
    labels_are_kept c.laws_of_elaboration.ensures rule g w old new merged
