use Rattle.std.proofs.Common.{refl}
use Rattle.wit_data.proofs.types.TypeDefTryClone.try_clone.Goals as goal

pub returns : goal.returns
returns c = rw (c.in_ok-kind.ensures, c.in_ok-name.ensures.0, c.in_ok-name.ensures.1, c.in_ok-name.ensures.2, c.in_ok-name.ensures.3) refl
