use Rattle.wit_graph_faults.proofs.OneFault.{none_told, some_told}
use Rattle.wit_graph_faults.proofs.search.find_graph_fault.Goals as goal

pub returns-clause-none : goal.returns-clause-none
returns-clause-none c = none_told c.args.graph.now c.first_fault.result c.first_fault.ensures.found

pub returns-clause-some : goal.returns-clause-some
returns-clause-some c = some_told c.args.graph.now c.first_fault.result c.first_fault.ensures.found
