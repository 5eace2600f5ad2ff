use Rattle.std.proofs.Common.{rules}
use Rattle.wit_digraph.proofs.cycle.is_acyclic.Goals as goal

pub returns-then-not-is_in_range : goal.returns-then-not-is_in_range
returns-then-not-is_in_range c = search rules
