use Rattle.std.proofs.Common.{rules}
use Rattle.wit_sources.proofs.source_map.position_after.Goals as goal

pub returns : goal.returns
returns c = search rules
