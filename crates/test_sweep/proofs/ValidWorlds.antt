-- What a valid graph has that the elaboration of all its worlds asks for.
use Rattle.std.proofs.Common.{length}
use Rattle.wit_data.specs.Each.{Each}
use Rattle.wit_data.specs.declared.world.World.{World}
use Rattle.wit_elaboration.specs.Sound.{HasSoundEntries}
use Rattle.wit_elaboration.specs.facts.SoundFacts.{HasSoundEntries-of_world}
use Rattle.wit_elaboration.specs.Valid.{IsValid}
use Rattle.wit_graph_data.specs.declared.graph.Graph.{Graph}

-- the keys and ids of each world are in order
pub worlds_sound : (g : Graph) → IsValid g → Each (λ (world : World). HasSoundEntries g.types (length g.interfaces) world.imports world.exports) g.worlds
worlds_sound g valid = λ w world at.
    HasSoundEntries-of_world g.types g.interfaces valid.well_formed.references.aliases w world (valid.well_formed.worlds.imports w world at) (valid.well_formed.worlds.exports w world at)
