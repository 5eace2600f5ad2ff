use Rattle.wit_merge_laws.specs.facts.GrownWorlds.{merges_grow}
use Rattle.wit_merge_laws.proofs.laws.merges_grow.Goals as goal

pub returns : goal.returns
returns c = merges_grow c.laws_of_elaboration.ensures
