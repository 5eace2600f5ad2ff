use Rattle.wit_link_spec.specs.facts.IncludedThere.{included_are_there}
use Rattle.wit_link_spec.proofs.laws.included_are_there.Goals as goal

pub returns : goal.returns
returns c = included_are_there
