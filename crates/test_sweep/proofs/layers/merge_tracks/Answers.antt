use Rattle.std.proofs.Common.{sym, subst}
use Rattle.wit_elaboration.specs.Valid.{IsValid}
use Rattle.test_sweep.proofs.layers.merge_tracks.Goals as goal

pub merge_by_track-answer-requires-clause-valid : goal.merge_by_track-answer-requires-clause-valid
merge_by_track-answer-requires-clause-valid g c = subst IsValid (sym c.in_ok-copy.ensures) c.requires.valid
