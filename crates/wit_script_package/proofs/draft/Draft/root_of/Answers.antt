use Rattle.std.proofs.Common.{rules}
use Rattle.wit_script_package.proofs.draft.Draft.root_of.Goals as goal

pub returns-in-Some : goal.returns-in-Some
returns-in-Some c = search rules
