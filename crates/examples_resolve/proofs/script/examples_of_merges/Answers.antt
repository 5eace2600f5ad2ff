use Rattle.examples_resolve.proofs.OfScripts.Merges.{merges_are}
use Rattle.examples_resolve.proofs.script.examples_of_merges.Goals as goal

pub returns : goal.returns
returns c = merges_are
