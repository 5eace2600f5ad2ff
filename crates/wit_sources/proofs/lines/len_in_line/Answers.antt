use Rattle.std.proofs.Common.{rules}
use Rattle.wit_sources.proofs.lines.len_in_line.Goals as goal

pub returns : goal.returns
returns c = search rules
