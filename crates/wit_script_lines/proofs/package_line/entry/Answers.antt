use Rattle.std.proofs.Common.{rules}
use Rattle.wit_script_lines.proofs.package_line.entry.Goals as goal

pub returns-in_ok-read_path-in-Some : goal.returns-in_ok-read_path-in-Some
returns-in_ok-read_path-in-Some c = search rules
