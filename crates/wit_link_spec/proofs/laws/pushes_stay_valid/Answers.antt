use Rattle.wit_link_spec.specs.facts.ValidFacts.{valid_pushes}
use Rattle.wit_link_spec.proofs.laws.pushes_stay_valid.Goals as goal

pub returns : goal.returns
returns c = λ a valid shaped image absent reached. valid_pushes c.laws_of_elaboration.ensures a valid shaped image reached absent
