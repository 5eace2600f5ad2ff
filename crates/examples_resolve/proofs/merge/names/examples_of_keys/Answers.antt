use Rattle.examples_resolve.proofs.OfMerges.KeysAre.{keys_are}
use Rattle.examples_resolve.proofs.merge.names.examples_of_keys.Goals as goal

pub returns : goal.returns
returns c = keys_are
