use Rattle.wit_values.proofs.PairsLemmas.{IsDistinct-take}
use Rattle.wit_values.proofs.pairs.cut.Goals as goal

pub returns-clause-distinct : goal.returns-clause-distinct
returns-clause-distinct g c = λ distinct. rw c.truncate.ensures.items (IsDistinct-take g.K.PartialEq.eq c.args.len c.args.pairs.now.items distinct)
