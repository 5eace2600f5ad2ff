use Rattle.std.proofs.Common.{rules}
use Rattle.wit_merge_match.proofs.leaving.joins_nothing.Goals as goal

pub returns-then-is_unknown : goal.returns-then-is_unknown
returns-then-is_unknown c = search rules

pub returns-else-is_unknown : goal.returns-else-is_unknown
returns-else-is_unknown c = search rules
