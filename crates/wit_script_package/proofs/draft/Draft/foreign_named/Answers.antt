use Rattle.std.proofs.Common.{rules}
use Rattle.wit_script_package.proofs.draft.Draft.foreign_named.Goals as goal

pub returns-in_err-items : goal.returns-in_err-items
returns-in_err-items c = search rules

pub returns-in_err-named : goal.returns-in_err-named
returns-in_err-named c = search rules

pub returns : goal.returns
returns c = search rules
