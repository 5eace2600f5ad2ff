use Rattle.std.proofs.Common.{rules}
use Rattle.wit_sources.proofs.source_map.SourceFile.has_position.Goals as goal

pub returns-in-Some : goal.returns-in-Some
returns-in-Some c = search rules
