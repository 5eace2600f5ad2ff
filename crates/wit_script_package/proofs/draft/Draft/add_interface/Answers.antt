use Rattle.std.proofs.Common.{rules}
use Rattle.wit_script_package.proofs.draft.Draft.add_interface.Goals as goal

pub returns-then-contains_key : goal.returns-then-contains_key
returns-then-contains_key c = search rules
