use Rattle.examples_resolve.proofs.OfScripts.Steps.{answers}
use Rattle.examples_resolve.proofs.script.examples_of_answers.Goals as goal

pub returns : goal.returns
returns c = answers c.examples_of_semver_merges.ensures c.examples_of_rules.ensures c.examples_of_causes.ensures
