use Rattle.std.proofs.Common.{sym, subst}
use Rattle.wit_data.specs.Shape.{IsShaped}
use Rattle.wit_elaboration.specs.Valid.{IsValid}
use Rattle.test_sweep.proofs.layers.append_one.Goals as goal

pub append-answer-requires-clause-valid : goal.append-answer-requires-clause-valid
append-answer-requires-clause-valid g c = subst IsValid (sym c.in_ok-copy.ensures) c.requires.valid

pub append-answer-requires-clause-shaped : goal.append-answer-requires-clause-shaped
append-answer-requires-clause-shaped g c = subst IsShaped (sym c.in_ok-package.ensures) c.requires.shaped
