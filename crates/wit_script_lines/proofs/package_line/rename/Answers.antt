use Rattle.std.proofs.Common.{rules}
use Rattle.wit_script_lines.proofs.package_line.rename.Goals as goal

pub returns-in_ok-as_-in-Some : goal.returns-in_ok-as_-in-Some
returns-in_ok-as_-in-Some c = search rules
