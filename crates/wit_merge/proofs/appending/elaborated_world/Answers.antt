use Rattle.std.proofs.Common.{sym}
use Rattle.wit_merge.proofs.appending.elaborated_world.Goals as goal

pub returns-then-complete-clause-ok : goal.returns-then-complete-clause-ok
returns-then-complete-clause-ok c = sym (c.in_ok-complete.ensures.own c.if-complete.true)

pub returns-then-complete-clause-no_conflict : goal.returns-then-complete-clause-no_conflict
returns-then-complete-clause-no_conflict c = c.in_ok-complete.ensures.no_conflict c.if-complete.true

pub returns-clause-ok : goal.returns-clause-ok
returns-clause-ok c = λ j. record c.args.world { imports = c.in_ok-lists.ensures.imports j; exports = c.in_ok-lists.ensures.exports j }
