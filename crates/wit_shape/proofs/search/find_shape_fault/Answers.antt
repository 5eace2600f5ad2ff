use Rattle.wit_shape.proofs.OneFault.{none_told, some_told}
use Rattle.wit_shape.proofs.search.find_shape_fault.Goals as goal

pub returns-clause-none : goal.returns-clause-none
returns-clause-none c = none_told c.args.unresolved.now c.first_fault.result c.first_fault.ensures

pub returns-clause-some : goal.returns-clause-some
returns-clause-some c = some_told c.args.unresolved.now c.first_fault.result c.first_fault.ensures
