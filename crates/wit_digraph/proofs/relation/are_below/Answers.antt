use Rattle.std.proofs.Common.{rules}
use Rattle.wit_digraph.proofs.relation.are_below.Goals as goal

pub returns : goal.returns
returns c = search rules
