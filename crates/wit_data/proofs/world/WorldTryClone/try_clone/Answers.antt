use Rattle.std.proofs.Common.{refl}
use Rattle.wit_data.proofs.world.WorldTryClone.try_clone.Goals as goal

pub returns : goal.returns
returns c = rw (c.in_ok-name.ensures.0, c.in_ok-name.ensures.1, c.in_ok-name.ensures.2, c.in_ok-name.ensures.3, c.in_ok-name.ensures.4, c.in_ok-name.ensures.5) refl
