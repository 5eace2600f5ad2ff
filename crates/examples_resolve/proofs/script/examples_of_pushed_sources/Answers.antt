use Rattle.examples_resolve.proofs.OfScripts.Parsed.{pushed_sources}
use Rattle.examples_resolve.proofs.script.examples_of_pushed_sources.Goals as goal

pub returns : goal.returns
returns c = pushed_sources
