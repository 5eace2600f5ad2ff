use Rattle.std.proofs.Common.{arith}
use Rattle.wit_shape.specs.facts.Prefixes.{none, not_all, some_there}
use Rattle.wit_shape.proofs.uses.first_on_cycle.Goals as goal

pub loop-acyclic-init : goal.loop-acyclic-init
loop-acyclic-init c =
    let uses = c.args.uses.now in
    let closes = not_all uses c.in_ok-is_acyclic.field-0 c.requires c.in_ok-is_acyclic.ensures c.if-branch.false in
    record { low = some_there uses closes; high = omega arith; before = none uses; closes = closes }
