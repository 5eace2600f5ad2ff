use Rattle.std.proofs.Common.{rules}
use Rattle.wit_remap.proofs.remap.Remap.from_lists.Goals as goal

pub returns : goal.returns
returns c = search rules
