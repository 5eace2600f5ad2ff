use Rattle.std.proofs.Common.{rules}
use Rattle.wit_script_lines.proofs.token.name_after.Goals as goal

pub returns-in_ok-version-in-Some : goal.returns-in_ok-version-in-Some
returns-in_ok-version-in-Some c = search rules
