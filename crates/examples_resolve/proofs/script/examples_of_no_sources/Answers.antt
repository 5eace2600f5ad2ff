use Rattle.examples_resolve.proofs.OfScripts.Parsed.{no_sources}
use Rattle.examples_resolve.proofs.script.examples_of_no_sources.Goals as goal

pub returns : goal.returns
returns c = no_sources
