use Rattle.std.proofs.Common.{arith}
use Rattle.wit_data.specs.facts.EachFacts.{all_of, more}
use Rattle.wit_shape.proofs.own.function_of_others.Goals as goal

pub loop-index-preserved : goal.loop-index-preserved
loop-index-preserved c = more c.loop-index.invariant _ c.entry_at.ensures c.in_ok-uses_own.ensures c.if-not-branch.false

pub returns : goal.returns
returns c = all_of c.loop-index.invariant (omega (arith, c.len-index-end.ensures.len))
