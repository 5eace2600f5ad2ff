use Rattle.std.proofs.Common.{rules}
use Rattle.wit_script_lines.proofs.token.primitive.Goals as goal

pub returns-in-s8 : goal.returns-in-s8
returns-in-s8 c = search rules
