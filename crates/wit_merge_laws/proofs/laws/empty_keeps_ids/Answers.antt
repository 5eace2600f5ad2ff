use Rattle.wit_merge_laws.specs.facts.EmptyFacts.{keeps_ids}
use Rattle.wit_merge_laws.proofs.laws.empty_keeps_ids.Goals as goal

pub returns : goal.returns
returns c = keeps_ids
