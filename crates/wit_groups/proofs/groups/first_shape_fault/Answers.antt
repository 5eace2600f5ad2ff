use Rattle.wit_groups.proofs.Shaped.{main_and_nested}
use Rattle.wit_groups.proofs.groups.first_shape_fault.Goals as goal

pub returns-in-None : goal.returns-in-None
returns-in-None c = main_and_nested c.args.main.now c.args.nested.now c.nested_shape_fault.result c.in_ok-fault.ensures.none c.in-None.is c.nested_shape_fault.ensures
