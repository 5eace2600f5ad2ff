use Rattle.wit_merge_laws.specs.facts.SelfFacts.{copies_change_nothing}
use Rattle.wit_merge_laws.proofs.laws.accepted_copies_change_nothing.Goals as goal

pub returns : goal.returns
returns c = copies_change_nothing c.laws_of_elaboration.ensures
