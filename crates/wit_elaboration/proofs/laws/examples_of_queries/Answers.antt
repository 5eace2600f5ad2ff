use Rattle.wit_elaboration.proofs.QueryExamples.{questions}
use Rattle.wit_elaboration.proofs.laws.examples_of_queries.Goals as goal

pub returns : goal.returns
returns c = questions
