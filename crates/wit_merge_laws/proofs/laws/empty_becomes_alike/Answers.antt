use Rattle.wit_merge_laws.specs.facts.EmptyFacts.{becomes_alike}
use Rattle.wit_merge_laws.proofs.laws.empty_becomes_alike.Goals as goal

pub returns : goal.returns
returns c = becomes_alike c.laws_of_elaboration.ensures c.examples_of_validity.ensures
