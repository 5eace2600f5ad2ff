use Rattle.std.proofs.Common.{sym, subst}
use Rattle.wit_elaboration.specs.Valid.{IsValid}
use Rattle.test_sweep.proofs.layers.append_list.Goals as goal

pub append_all-answer-requires-clause-valid : goal.append_all-answer-requires-clause-valid
append_all-answer-requires-clause-valid g c = subst IsValid (sym c.in_ok-copy.ensures) c.requires.valid
