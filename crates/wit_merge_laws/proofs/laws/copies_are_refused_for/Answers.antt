use Rattle.wit_merge_laws.specs.facts.CopyCauses.{copies_refused}
use Rattle.wit_merge_laws.proofs.laws.copies_are_refused_for.Goals as goal

pub returns : goal.returns
returns c = copies_refused c.laws_of_elaboration.ensures
