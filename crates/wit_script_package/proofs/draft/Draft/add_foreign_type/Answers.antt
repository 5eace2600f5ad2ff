use Rattle.std.proofs.Common.{rules}
use Rattle.wit_script_package.proofs.draft.Draft.add_foreign_type.Goals as goal

pub returns-then-contains_key : goal.returns-then-contains_key
returns-then-contains_key c = search rules

pub returns : goal.returns
returns c = search rules
