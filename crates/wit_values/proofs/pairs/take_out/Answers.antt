use Rattle.wit_values.proofs.PairsLemmas.{IsDistinct-remove, there}
use Rattle.wit_values.proofs.pairs.take_out.Goals as goal

pub returns-clause-distinct : goal.returns-clause-distinct
returns-clause-distinct g c =
    λ distinct.
    let here = there c.args.pairs.now.items c.args.index c.requires in
    rw c.remove.ensures.items (IsDistinct-remove g.met.K.Eq.laws c.args.pairs.now.items c.args.index here.0 here.1 distinct)
