use Rattle.std.proofs.Common.{refl}
use Rattle.wit_data.proofs.unresolved.UnresolvedPackageTryClone.try_clone.Goals as goal

pub returns : goal.returns
returns c = rw (c.in_ok-name.ensures.0, c.in_ok-name.ensures.1, c.in_ok-worlds.ensures.0, c.in_ok-worlds.ensures.1, c.in_ok-worlds.ensures.2, c.in_ok-foreign_deps.ensures.0, c.in_ok-foreign_deps.ensures.1, c.in_ok-foreign_deps.ensures.2, c.in_ok-foreign_deps.ensures.3) refl
