use Rattle.std.proofs.Common.{refl}
use Rattle.wit_data.proofs.interface.InterfaceTryClone.try_clone.Goals as goal

pub returns : goal.returns
returns c = rw (c.in_ok-name.ensures.0, c.in_ok-name.ensures.1, c.in_ok-name.ensures.2, c.in_ok-docs.ensures.0, c.in_ok-docs.ensures.1) refl
