use Rattle.wit_merge_laws.specs.facts.NothingFacts.{nothing}
use Rattle.wit_merge_laws.proofs.laws.nothing_comes.Goals as goal

pub returns : goal.returns
returns c = nothing
