use Rattle.std.proofs.Common.{rules}
use Rattle.wit_sources.proofs.lines.is_char_start.Goals as goal

pub returns-else-byte-lt128 : goal.returns-else-byte-lt128
returns-else-byte-lt128 c = search rules
