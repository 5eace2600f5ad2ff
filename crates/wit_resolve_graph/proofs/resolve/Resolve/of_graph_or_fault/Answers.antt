use Rattle.wit_resolve_graph.proofs.resolve.Resolve.of_graph_or_fault.Goals as goal

pub returns-in-Some-clause-fault : goal.returns-in-Some-clause-fault
returns-in-Some-clause-fault c = (c.in_ok-fault.ensures.some c.in-Some.fault).0 c.in-Some.is
