use Rattle.wit_semver.specs.facts.Merged.{one_on_each}
use Rattle.wit_semver.proofs.laws.one_on_each_track.Goals as goal

pub returns : goal.returns
returns c =
    λ rule g w old new i j merged has_i has_j on.
    one_on_each c.laws_of_elaboration.ensures rule g w old new merged i j has_i has_j on
