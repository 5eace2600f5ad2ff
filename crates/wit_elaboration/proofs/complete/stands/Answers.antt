use Rattle.std.proofs.Common.{sym}
use Rattle.wit_elaboration.proofs.complete.stands.Goals as goal

pub has_all-requires : goal.has_all-requires
has_all-requires c = rw (c.direct_uses.ensures, c.requires.nodes) (c.requires.acyclic.in_range c.index.result)

pub returns-in-Instance : goal.returns-in-Instance
returns-in-Instance c = rw (c.in-Instance.is, sym c.index.ensures, sym c.direct_uses.ensures) c.has_all.ensures
