use Rattle.examples_resolve.proofs.OfScripts.Steps.{steps}
use Rattle.examples_resolve.proofs.script.examples_of_steps.Goals as goal

pub returns : goal.returns
returns c = steps c.examples_of_semver_merges.ensures c.examples_of_rules.ensures c.examples_of_causes.ensures
