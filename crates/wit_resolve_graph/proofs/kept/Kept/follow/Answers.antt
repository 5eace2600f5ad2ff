use Rattle.std.proofs.Common.{rules}
use Rattle.wit_resolve_graph.proofs.kept.Kept.follow.Goals as goal

pub returns-then-is_err-clause-unchanged : goal.returns-then-is_err-clause-unchanged
returns-then-is_err-clause-unchanged c = search rules
