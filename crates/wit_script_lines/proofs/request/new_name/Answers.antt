use Rattle.std.proofs.Common.{rules}
use Rattle.wit_script_lines.proofs.request.new_name.Goals as goal

pub returns : goal.returns
returns c = search rules
