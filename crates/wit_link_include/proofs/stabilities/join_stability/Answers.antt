use Rattle.std.proofs.Common.{rules}
use Rattle.wit_link_include.proofs.stabilities.join_stability.Goals as goal

pub returns-then-is_unknown-2-clause-fine : goal.returns-then-is_unknown-2-clause-fine
returns-then-is_unknown-2-clause-fine c = search rules
