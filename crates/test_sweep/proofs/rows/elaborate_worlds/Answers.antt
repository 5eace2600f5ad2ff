use Rattle.std.proofs.Common.{sym, subst}
use Rattle.wit_elaboration.specs.Valid.{IsValid}
use Rattle.test_sweep.proofs.ValidWorlds.{worlds_sound}
use Rattle.test_sweep.proofs.rows.elaborate_worlds.Goals as goal

pub elaborate_all-answer-requires-clause-listed : goal.elaborate_all-answer-requires-clause-listed
elaborate_all-answer-requires-clause-listed g c = worlds_sound c.in_ok-copy.copy (subst IsValid (sym c.in_ok-copy.ensures) c.requires.valid)
