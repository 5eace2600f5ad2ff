use Rattle.std.proofs.Common.{sym}
use Rattle.wit_labels.proofs.UnplacedSetters.{none_placed}
use Rattle.wit_labels.proofs.placing.place_setters.Goals as goal

pub returns-then-has_no_setter : goal.returns-then-has_no_setter
returns-then-has_no_setter c = sym (none_placed c.args.entries (c.has_no_setter.ensures.0 c.if-has_no_setter.true))
