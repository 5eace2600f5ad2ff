use Rattle.wit_transform.proofs.TransformedBack.{exportized_imports_nothing}
use Rattle.wit_transform.proofs.laws.exportized_imports_nothing.Goals as goal

pub returns : goal.returns
returns c =
    exportized_imports_nothing c.laws_of_elaboration.ensures
