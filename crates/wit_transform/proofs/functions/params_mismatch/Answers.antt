use Rattle.std.proofs.Common.{arith}
use Rattle.wit_transform.proofs.Steps.{params-all, params-differ, params-next}
use Rattle.wit_transform.proofs.functions.params_mismatch.Goals as goal

pub returns-in-Some-clause-some : goal.returns-in-Some-clause-some
returns-in-Some-clause-some c = params-differ c.args.from.now c.args.into.now c.loop-index.index _ _ c.at-param.ensures c.at-other.ensures _ (rw c.in-Some.is at c.in_ok-text.ensures.some)

pub loop-index-preserved : goal.loop-index-preserved
loop-index-preserved c = params-next c.args.from.now.params c.args.into.now.params c.loop-index.index _ _ c.at-param.ensures c.at-other.ensures c.loop-index.invariant (rw c.in_default.is at c.in_ok-text.ensures.none)

pub returns-clause-none : goal.returns-clause-none
returns-clause-none c = params-all c.args.from.now.params c.args.into.now.params c.loop-index.index (omega arith) c.loop-index.invariant
