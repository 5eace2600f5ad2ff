use Rattle.wit_elaboration.proofs.ElaboratedKeys.{export_keys_stay}
use Rattle.wit_elaboration.proofs.laws.export_keys_stay.Goals as goal

pub returns : goal.returns
returns c = export_keys_stay
