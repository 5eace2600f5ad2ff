use Rattle.wit_merge_laws.specs.facts.SharedImports.{shared_imports}
use Rattle.wit_merge_laws.proofs.laws.shared_worlds_keep_imports.Goals as goal

pub returns : goal.returns
returns c = shared_imports c.laws_of_elaboration.ensures
