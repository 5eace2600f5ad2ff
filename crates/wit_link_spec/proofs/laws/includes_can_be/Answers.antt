use Rattle.wit_link_spec.specs.laws.StageLaws.{includes_can_be}
use Rattle.wit_link_spec.proofs.laws.includes_can_be.Goals as goal

pub returns : goal.returns
returns c = includes_can_be c.laws_of_elaboration.ensures
