use Rattle.wit_transform.proofs.Accepted.{exportized_valid}
use Rattle.wit_transform.proofs.laws.exportized_stay_valid.Goals as goal

pub returns : goal.returns
returns c =
    λ g w answers out valid count clear.
    exportized_valid c.laws_of_elaboration.ensures g valid w out answers count clear
