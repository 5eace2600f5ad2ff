use Rattle.wit_values.proofs.NameSetLemmas.{IsDistinct-texts}
use Rattle.wit_values.proofs.name_set.NameSet.len.Goals as goal

pub returns-clause-distinct : goal.returns-clause-distinct
returns-clause-distinct c = rw (← c.self.view_is) (IsDistinct-texts c.self.inside.inner.keys c.len.ensures.unique)
