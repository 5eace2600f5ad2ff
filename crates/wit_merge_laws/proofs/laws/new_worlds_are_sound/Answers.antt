use Rattle.wit_merge_laws.specs.facts.GrownFunctions.{new_worlds_are_sound}
use Rattle.wit_merge_laws.proofs.laws.new_worlds_are_sound.Goals as goal

pub returns : goal.returns
returns c = new_worlds_are_sound
