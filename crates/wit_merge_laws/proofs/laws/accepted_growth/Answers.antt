use Rattle.wit_merge_laws.specs.facts.GrownWorlds.{accepted_growth}
use Rattle.wit_merge_laws.proofs.laws.accepted_growth.Goals as goal

pub returns : goal.returns
returns c = accepted_growth c.laws_of_elaboration.ensures
