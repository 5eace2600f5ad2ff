use Rattle.std.proofs.Common.{arith}
use Rattle.wit_shape.proofs.Clauses.{before, first, one_more, shaped}
use Rattle.wit_shape.proofs.search.first_fault.Goals as goal

pub find_place-requires : goal.find_place-requires
find_place-requires c = before c.args.unresolved.now c.loop-clause.clause-index _ c.loop-clause-test.true c.loop-clause.invariant

pub returns-in-Some : goal.returns-in-Some
returns-in-Some c = first c.args.unresolved.now c.loop-clause.clause-index _ c.loop-clause-test.true c.loop-clause.invariant _ _ c.in_ok-place.ensures c.in-Some.is

pub loop-clause-preserved : goal.loop-clause-preserved
loop-clause-preserved c = one_more c.args.unresolved.now c.loop-clause.clause-index _ c.loop-clause-test.true c.loop-clause.invariant _ c.in_ok-place.ensures c.in_default.is

pub returns : goal.returns
returns c = shaped c.args.unresolved.now c.keys_differ.ensures (λ which below. c.loop-clause.invariant which (omega (arith, below, c.loop-clause-test.false)))
