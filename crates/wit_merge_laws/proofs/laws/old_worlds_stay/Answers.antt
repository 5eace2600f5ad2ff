use Rattle.wit_merge_laws.specs.facts.GrownWorlds.{old_worlds}
use Rattle.wit_merge_laws.proofs.laws.old_worlds_stay.Goals as goal

pub returns : goal.returns
returns c = old_worlds c.laws_of_elaboration.ensures
