use Rattle.wit_values.proofs.PairsLemmas.{found, value}
use Rattle.wit_values.proofs.table.Table.get_index_of.Goals as goal

pub returns-clause-found : goal.returns-clause-found
returns-clause-found g c = found (g.K.PartialEq.eq c.args.key.now) c.args.self.now c.index_of.result c.index_of.ensures.index

pub returns-clause-value : goal.returns-clause-value
returns-clause-value g c = value (g.K.PartialEq.eq c.args.key.now) c.args.self.now c.index_of.result c.index_of.ensures.index
