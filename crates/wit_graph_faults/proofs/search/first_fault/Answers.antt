use Rattle.std.proofs.Common.{arith}
use Rattle.wit_graph_faults.proofs.Clauses.{before, first, one_more, valid}
use Rattle.wit_graph_faults.proofs.search.first_fault.Goals as goal

pub find_place-requires : goal.find_place-requires
find_place-requires c = before c.args.graph.now c.loop-clause.clause-index _ c.loop-clause-test.true c.loop-clause.invariant

pub returns-in-Some-clause-found : goal.returns-in-Some-clause-found
returns-in-Some-clause-found c = first c.args.graph.now c.loop-clause.clause-index _ c.loop-clause-test.true c.loop-clause.invariant _ _ c.in_ok-place.ensures.found c.in-Some.is

pub loop-clause-preserved : goal.loop-clause-preserved
loop-clause-preserved c = one_more c.args.graph.now c.loop-clause.clause-index _ c.loop-clause-test.true c.loop-clause.invariant _ c.in_ok-place.ensures.found c.in_default.is

pub returns-clause-found : goal.returns-clause-found
returns-clause-found c = valid c.args.graph.now c.keys_differ.ensures (λ which below. c.loop-clause.invariant which (omega (arith, below, c.loop-clause-test.false)))
