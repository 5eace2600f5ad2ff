use Rattle.std.proofs.Common.{sym}
use Rattle.wit_transform.specs.facts.Looked.{taken_none, taken_some}
use Rattle.wit_transform.proofs.renaming.is_taken.Goals as goal

pub returns-in-Some : goal.returns-in-Some
returns-in-Some c =
    rw (c.is_other.ensures) (taken_some c.args.home.now.worlds c.args.name.now c.args.world c.in-Some.id.now c.keys_differ.ensures.test (sym c.in-Some.ensures))

pub returns-in-None : goal.returns-in-None
returns-in-None c = taken_none c.args.home.now.worlds c.args.name.now c.args.world c.keys_differ.ensures.test (sym c.in-None.ensures)
