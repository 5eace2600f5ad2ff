use Rattle.std.proofs.Common.{refl}
use Rattle.wit_values.proofs.pairs.fn.retain_indexed.retain.Goals as goal

pub returns : goal.returns
returns g c = (record { shown = _; shows = refl; says = record { met = c.keep.ensures } }, refl)
