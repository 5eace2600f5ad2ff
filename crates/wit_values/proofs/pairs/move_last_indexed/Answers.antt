use Rattle.std.proofs.Common.{◌∙◌}
use Rattle.wit_values.proofs.PairsLemmas.{map_last}
use Rattle.wit_values.proofs.pairs.move_last_indexed.Goals as goal

pub returns : goal.returns
returns g c = c.move_index.ensures.entries ∙ map_last c.args.map.now.entries c.args.index c.len.result c.requires c.len.ensures.len
