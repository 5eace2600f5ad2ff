use Rattle.std.proofs.Common.{sym, subst}
use Rattle.wit_elaboration.specs.Valid.{IsValid}
use Rattle.test_sweep.proofs.layers.importize_world.Goals as goal

pub importize-answer-requires-clause-valid : goal.importize-answer-requires-clause-valid
importize-answer-requires-clause-valid g c = subst IsValid (sym c.in_ok-copy.ensures) c.requires.valid
