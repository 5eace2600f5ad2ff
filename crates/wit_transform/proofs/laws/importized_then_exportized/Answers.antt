use Rattle.wit_transform.proofs.TransformedBack.{importized_then_exportized}
use Rattle.wit_transform.proofs.laws.importized_then_exportized.Goals as goal

pub returns : goal.returns
returns c =
    importized_then_exportized c.laws_of_elaboration.ensures
