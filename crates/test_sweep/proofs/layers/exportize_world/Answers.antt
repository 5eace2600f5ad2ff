use Rattle.std.proofs.Common.{sym, subst}
use Rattle.wit_elaboration.specs.Valid.{IsValid}
use Rattle.test_sweep.proofs.layers.exportize_world.Goals as goal

pub exportize-answer-requires-clause-valid : goal.exportize-answer-requires-clause-valid
exportize-answer-requires-clause-valid g c = subst IsValid (sym c.in_ok-copy.ensures) c.requires.valid
