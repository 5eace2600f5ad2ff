use Rattle.examples_resolve.proofs.OfScripts.Merges.{refused_are}
use Rattle.examples_resolve.proofs.script.examples_of_refused_merges.Goals as goal

pub returns : goal.returns
returns c = refused_are
