use Rattle.std.proofs.Common.{rules}
use Rattle.wit_link_include.proofs.leading.leads.Goals as goal

pub returns-in_ok-referred-in-Some : goal.returns-in_ok-referred-in-Some
returns-in_ok-referred-in-Some c = search rules
