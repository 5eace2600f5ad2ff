use Rattle.std.proofs.Common.{arith}
use Rattle.wit_elaboration.specs.facts.FreshEntries.{dependencies-next}
use Rattle.wit_elaboration.proofs.entries.add_dependencies.Goals as goal

pub loop-interface-preserved : goal.loop-interface-preserved
loop-interface-preserved c =
    dependencies-next c.args.carried.now c.args.entries.now c.loop-interface.entries c.add_dependency.new.entries c.args.interfaces.now c.loop-interface.interface-index (omega arith) c.loop-interface.invariant c.in_ok-add_dependency.ensures
