use Rattle.std.proofs.Common.{rules}
use Rattle.wit_core_names.proofs.parts.future_index_text.Goals as goal

pub returns-in-Some-future_index-clause-text : goal.returns-in-Some-future_index-clause-text
returns-in-Some-future_index-clause-text c = search rules
