use Rattle.wit_semver.specs.facts.Merged.{keys_are_exact}
use Rattle.wit_semver.proofs.laws.keys_are_exact.Goals as goal

pub returns : goal.returns
returns c =
    λ rule g w old new j merged.
    keys_are_exact c.laws_of_elaboration.ensures rule g w old new merged j
