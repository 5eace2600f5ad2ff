use Rattle.wit_transform.proofs.TransformedBack.{importized_exports_nothing}
use Rattle.wit_transform.proofs.laws.importized_exports_nothing.Goals as goal

pub returns : goal.returns
returns c =
    importized_exports_nothing
