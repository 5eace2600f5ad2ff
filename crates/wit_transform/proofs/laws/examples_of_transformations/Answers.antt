use Rattle.wit_transform.proofs.TransformExamples.{examples_of_transformations}
use Rattle.wit_transform.proofs.laws.examples_of_transformations.Goals as goal

pub returns : goal.returns
returns c = examples_of_transformations
