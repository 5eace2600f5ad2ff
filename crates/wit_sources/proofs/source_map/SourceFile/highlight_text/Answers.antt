use Rattle.std.proofs.Common.{rules}
use Rattle.wit_sources.proofs.source_map.SourceFile.highlight_text.Goals as goal

pub returns : goal.returns
returns c = search rules
