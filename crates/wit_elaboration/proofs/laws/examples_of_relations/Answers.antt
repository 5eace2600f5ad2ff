use Rattle.std.proofs.Common.{refl}
use Rattle.wit_elaboration.proofs.laws.examples_of_relations.Goals as goal

pub returns : goal.returns
returns c = record { uses = refl; references = refl; own_package = refl; with_repeats = refl; no_package = refl }
