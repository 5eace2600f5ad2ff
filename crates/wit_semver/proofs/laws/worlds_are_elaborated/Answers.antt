use Rattle.wit_semver.proofs.EachElaborated.{worlds_are_elaborated}
use Rattle.wit_semver.proofs.laws.worlds_are_elaborated.Goals as goal

pub returns : goal.returns
returns c = worlds_are_elaborated c.laws_of_elaboration.ensures.refused
