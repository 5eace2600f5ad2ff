use Rattle.std.proofs.Common.{sym}
use Rattle.wit_elaboration.proofs.AllWorlds.{made_lists}
use Rattle.wit_elaboration.proofs.all_worlds.new_lists.Goals as goal

pub returns-then-complete-clause-lists : goal.returns-then-complete-clause-lists
returns-then-complete-clause-lists c = sym (c.in_ok-complete.ensures.own c.if-complete.true)

pub returns-then-complete-clause-no_conflict : goal.returns-then-complete-clause-no_conflict
returns-then-complete-clause-no_conflict c = c.in_ok-complete.ensures.no_conflict c.if-complete.true

pub returns-clause-lists : goal.returns-clause-lists
returns-clause-lists c = made_lists c.args.graph.now c.args.world.now c.in_ok-lists_for.field-0 c.in_ok-lists_for.ensures.imports c.in_ok-lists_for.ensures.exports
