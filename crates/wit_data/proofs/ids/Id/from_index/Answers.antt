use Rattle.std.proofs.Common.{rules}
use Rattle.wit_data.proofs.ids.Id.from_index.Goals as goal

pub returns : goal.returns
returns g c = search rules
