use Rattle.wit_merge_laws.specs.facts.GrownWorlds.{no_new_cycles}
use Rattle.wit_merge_laws.proofs.laws.nothing_new_is_cyclic.Goals as goal

pub returns : goal.returns
returns c = no_new_cycles
