use Rattle.examples_resolve.proofs.OfScripts.Parsed.{parsed}
use Rattle.examples_resolve.proofs.script.examples_of_parsed.Goals as goal

pub returns : goal.returns
returns c = parsed
