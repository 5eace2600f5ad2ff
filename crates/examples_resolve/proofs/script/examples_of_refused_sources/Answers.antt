use Rattle.examples_resolve.proofs.OfScripts.Parsed.{refused_sources}
use Rattle.examples_resolve.proofs.script.examples_of_refused_sources.Goals as goal

pub returns : goal.returns
returns c = refused_sources
