use Rattle.examples_resolve.proofs.OfMerges.NamesAre.{names_are}
use Rattle.examples_resolve.proofs.merge.names.examples_of_names.Goals as goal

pub returns : goal.returns
returns c = names_are
