use Rattle.std_collections.proofs.IterRuns.{shows_in_order}
use Rattle.wit_values.specs.Names.{deref_named}
use Rattle.wit_values.proofs.NamesLemmas.{IsDistinct-named}
use Rattle.wit_values.proofs.names.Names.iter.Goals as goal

pub returns-clause-runs : goal.returns-clause-runs
returns-clause-runs g c = shows_in_order deref_named

pub returns-clause-distinct : goal.returns-clause-distinct
returns-clause-distinct g c = rw (← c.self.view_is) (IsDistinct-named c.self.inside.inner c.iter.ensures.distinct)
