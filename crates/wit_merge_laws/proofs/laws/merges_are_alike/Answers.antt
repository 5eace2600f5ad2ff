use Rattle.wit_merge_laws.specs.facts.OrderFree.{merges_are_alike}
use Rattle.wit_merge_laws.proofs.laws.merges_are_alike.Goals as goal

pub returns : goal.returns
returns c = merges_are_alike c.laws_of_elaboration.ensures
