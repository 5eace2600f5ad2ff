use Rattle.wit_transform.proofs.Accepted.{importized_valid}
use Rattle.wit_transform.proofs.laws.importized_stay_valid.Goals as goal

pub returns : goal.returns
returns c =
    λ g w out valid clear.
    importized_valid c.laws_of_elaboration.ensures g valid w out clear
