use Rattle.std.proofs.Common.{rules}
use Rattle.wit_script_package.proofs.draft.Draft.add_foreign.Goals as goal

pub returns-in-Interface : goal.returns-in-Interface
returns-in-Interface c = search rules
