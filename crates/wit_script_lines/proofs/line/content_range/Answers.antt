use Rattle.std.proofs.Common.{rules}
use Rattle.wit_script_lines.proofs.line.content_range.Goals as goal

pub returns-clause-end : goal.returns-clause-end
returns-clause-end c = search rules
