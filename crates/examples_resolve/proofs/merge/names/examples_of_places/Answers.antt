use Rattle.examples_resolve.proofs.OfMerges.KeysAre.{places_are}
use Rattle.examples_resolve.proofs.merge.names.examples_of_places.Goals as goal

pub returns : goal.returns
returns c = places_are
