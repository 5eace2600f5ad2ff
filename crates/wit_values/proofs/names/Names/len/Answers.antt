use Rattle.wit_values.proofs.NamesLemmas.{IsDistinct-named}
use Rattle.wit_values.proofs.names.Names.len.Goals as goal

pub returns-clause-distinct : goal.returns-clause-distinct
returns-clause-distinct g c = rw (← c.self.view_is) (IsDistinct-named c.self.inside.inner c.len.ensures.distinct)
