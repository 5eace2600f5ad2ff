use Rattle.wit_link_spec.specs.laws.StageLaws.{worlds_can_be}
use Rattle.wit_link_spec.proofs.laws.worlds_can_be.Goals as goal

pub returns : goal.returns
returns c = worlds_can_be c.laws_of_elaboration.ensures
