use Rattle.wit_merge_laws.specs.facts.GrownUses.{uses_grow}
use Rattle.wit_merge_laws.proofs.laws.uses_grow.Goals as goal

pub returns : goal.returns
returns c = uses_grow
